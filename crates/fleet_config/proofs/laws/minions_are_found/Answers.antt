use Rattle.fleet_config.proofs.Ids.{finds_minions, finds_places}
use Rattle.fleet_config.proofs.laws.minions_are_found.Goals as goal

pub returns : goal.returns
returns c = record {
  below = finds_minions;
  places = finds_places;
}
