-- What is found by an id: a minion among those below a node, and the place of a node.
use Rattle.std.specs.Prelude.{◌≡◌, ℕ, ◌<◌, IsTrue, true, List, length, position, is_some, bytes_eq}
use Rattle.fleet_config.specs.Tree.{Tree, id_of, is_minion, is_within, ids_below, place_of}

-- a minion that is a node or lies below it is found by its id among the ids below that node
abbrev pub FindsMinionsBelow : Type 0
FindsMinionsBelow = (t : Tree) (a m : ℕ) → is_minion t m ≡ true → is_within t a m ≡ true
    → IsTrue (is_some (position (λ other. bytes_eq other (id_of t m)) (ids_below t a)))

-- the node at the place of an id has that id, where there is one
abbrev pub FindsPlaces : Type 0
FindsPlaces = (t : Tree) (id : List ℕ) → place_of t id < length t → id_of t (place_of t id) ≡ id
