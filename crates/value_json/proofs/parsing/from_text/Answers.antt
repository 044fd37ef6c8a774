use Rattle.std.proofs.Common.{rules}
use Rattle.value_json.proofs.Back.{all_written}
use Rattle.value_json.proofs.parsing.from_text.Goals as goal

pub returns-in-Ok-clause-written : goal.returns-in-Ok-clause-written
returns-in-Ok-clause-written c = all_written c.args.text.now c.value_or_fault.result (search rules)
