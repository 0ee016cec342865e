-- A queue as one list of nodes.
use Rattle.std.specs.Prelude.{◌≡◌, ◌<◌, ℕ, ◌^◌, true, List, [], ◌∷◌, length, Option, Some, is_some}
use Rattle.std.specs.Option.{option_map_or}
use Rattle.link_arena.specs.Lists.{Lists, list_at, is_in}
use Rattle.online_queue.specs.declared.records.RecordId.{RecordId}
use Rattle.online_queue.specs.Waiting.{name_at}

-- the records at the nodes of a list
abbrev pub names_of : List (Option RecordId) → List ℕ → List RecordId
names_of names [] = []
names_of names (node ∷ nodes) = option_map_or (λ r. r ∷ names_of names nodes) (name_at names node) (names_of names nodes)

-- no two nodes are for one record
abbrev pub Apart : List (Option RecordId) → Type 0
Apart names = (i j : ℕ) (r : RecordId) → name_at names i ≡ Some r → name_at names j ≡ Some r → i ≡ j

-- the node is that of the record, or it is free and the record has none
pub record Takes (names : List (Option RecordId)) (r : RecordId) (node : ℕ) : Type 0 where
  pub below : node < length names
  pub own : (q : RecordId) → name_at names node ≡ Some q → q ≡ r
  pub once : (j : ℕ) → name_at names j ≡ Some r → j ≡ node

-- each node of the list is for a record, and no two nodes are for one
pub record AreNamed (names : List (Option RecordId)) (nodes : List ℕ) : Type 0 where
  pub named : (node : ℕ) → is_in node nodes ≡ true → is_some (name_at names node) ≡ true
  pub apart : Apart names

-- there is one list of the nodes, and the queue is as long
pub record IsSound (rings : Lists) (names : List (Option RecordId)) (waiting : ℕ) : Type 0 where
  pub one : rings.lists ≡ list_at rings.lists 0 ∷ []
  pub size : length names ≡ rings.nodes
  pub fits : rings.nodes < 2 ^ 32
  pub long : waiting ≡ length (list_at rings.lists 0)
  pub named : AreNamed names (list_at rings.lists 0)
