-- The trees that the nodes of a table stand for: the parts of a node stand before it.
use Rattle.std.specs.Prelude.{◌≡◌, ℕ, suc, ◌+◌, ◌<◌, ◌≤◌, List, [], ◌∷◌, ◌++◌, length}
use Rattle.std.specs.Prelude.{slice_index_or, nat_lt, Bool, true, ◌&&◌, Option, Some, None, map}
use Rattle.std.specs.Prelude.{String, string_bytes}
use Rattle.std.specs.declared.alloc.Global.{Global}
use Rattle.pb_semantics.specs.Kind.{KindData, put_slot}
use Rattle.pb_semantics.specs.Well.{Well}
use Rattle.pb_kind.specs.KindView.{is_always, kind_view}
use Rattle.pb_language.specs.Expression.{Name}
use Rattle.pb_lattice.specs.Trees.{Tree, bare, known, fork, WellTree, tree_below, are_alike, IsJoin}
use Rattle.pb_lattice.specs.Trees.{fits, slots_over}
use Rattle.pb_lattice.specs.declared.tree.Part.{Part}
use Rattle.pb_lattice.specs.declared.tree.Part.TheVariants as part
use Rattle.pb_lattice.specs.declared.tree.Node.{Node}
use Rattle.pb_lattice.specs.declared.tree.Meeting.{Meeting}
use Rattle.pb_lattice.specs.declared.tree.Meeting.TheVariants as meeting

abbrev pub names_of : List (String Global) → List Name
names_of ns = map (λ n. string_bytes n) ns

-- one level, where f gives the trees below it
abbrev pub part_view : (ℕ → Tree) → Part → Tree
part_view f part.Bare = bare
part_view f (part.Known s) = known (is_always s.presence) (kind_view s.kind)
part_view f (part.Fork l r) = fork (f l) (f r)

-- the trees of a table, those of its first nodes being known
abbrev pub trees_from : List Tree → List Node → List Tree
trees_from ts [] = ts
trees_from ts (n ∷ ns) =
    trees_from (ts ++ part_view (λ i. slice_index_or ts i bare) n.part ∷ []) ns

abbrev pub tree_at : List Node → ℕ → Tree
tree_at ns i = slice_index_or (trees_from [] ns) i bare

abbrev pub are_parts_below : ℕ → Part → Bool
are_parts_below i (part.Fork l r) = nat_lt l i && nat_lt r i
are_parts_below i p = true

abbrev pub are_made_below : ℕ → Option (ℕ × ℕ) → Bool
are_made_below i None = true
are_made_below i (Some p) = nat_lt p.0 i && nat_lt p.1 i

abbrev pub is_grounded_from : ℕ → List Node → Bool
is_grounded_from i [] = true
is_grounded_from i (n ∷ ns) =
    (are_parts_below i n.part && are_made_below i n.of) && is_grounded_from (suc i) ns

-- both that the tree was made of are below it
abbrev pub IsMade : (ℕ → Tree) → Tree → Option (ℕ × ℕ) → Type 0
IsMade f t None = Unit {0}
IsMade f t (Some p) = (tree_below (f p.0) t ≡ true) × (tree_below (f p.1) t ≡ true)

-- the parts of each node stand before it, its kinds are well formed, and what it was made of is
-- below it; of the first node nothing is known
pub record IsTable (ns : List Node) : Type 0 where
  pub grounded : is_grounded_from 0 ns ≡ true
  pub first : 0 < length ns
  pub empty : tree_at ns 0 ≡ bare
  pub well : (i : ℕ) → i < length ns → WellTree (tree_at ns i)
  pub made : (i : ℕ) (d : Node) → i < length ns
      → IsMade (tree_at ns) (tree_at ns i) (slice_index_or ns i d).of

-- what was in the table means what it meant
pub record IsGrown (ns ms : List Node) : Type 0 where
  pub longer : length ns ≤ length ms
  pub same : (i : ℕ) → i < length ns → tree_at ms i ≡ tree_at ns i

-- the new node stands for that tree
pub record IsNew (t : Tree) (ms : List Node) (i : ℕ) : Type 0 where
  pub within : i < length ms
  pub well : WellTree t
  pub means : tree_at ms i ≡ t

-- the pair of places is of trees that may be joined, and comes before that other pair
pub record IsPair (f : ℕ → Tree) (i j : ℕ) (p : ℕ × ℕ) : Type 0 where
  pub first : p.0 ≤ i
  pub second : p.1 ≤ j
  pub before : p.0 + p.1 < i + j
  pub alike : are_alike (f p.0) (f p.1) ≡ true

-- what two trees join to: the first, one name, or the joins of two pairs of halves
abbrev pub IsMeeting : (ℕ → Tree) → ℕ → ℕ → Meeting → Type 0
IsMeeting f i j meeting.First = WellTree (f i) × IsJoin (f i) (f j) (f i)
IsMeeting f i j (meeting.Known s) =
    Well (kind_view s.kind) × IsJoin (f i) (f j) (known (is_always s.presence) (kind_view s.kind))
IsMeeting f i j (meeting.Forks p q) = IsPair f i j p × IsPair f i j q
    × ((v w : Tree) → IsJoin (f p.0) (f p.1) v → IsJoin (f q.0) (f q.1) w
    → IsJoin (f i) (f j) (fork v w))

-- two trees that may be joined
pub record MayJoin (ns : List Node) (p : ℕ × ℕ) : Type 0 where
  pub first : p.0 < length ns
  pub second : p.1 < length ns
  pub alike : are_alike (tree_at ns p.0) (tree_at ns p.1) ≡ true

-- the new node stands for a join of the two trees
pub record IsJoined (t u : Tree) (ms : List Node) (i : ℕ) : Type 0 where
  pub within : i < length ms
  pub well : WellTree (tree_at ms i)
  pub joins : IsJoin t u (tree_at ms i)

-- over two names or more the first tree says what the fork of the others does
abbrev pub IsSplit : Tree → Tree → Tree → Type 0
IsSplit t l r = (ns : List Name) → 1 < length ns → fits t ns ≡ true
    → (fits (fork l r) ns ≡ true) × (slots_over (fork l r) ns ≡ slots_over t ns)

-- the new node stands for the tree over the names with that slot put into it
pub record IsPut (t : Tree) (ns : List Name) (n : Name) (a : Bool) (k : KindData) (ms : List Node)
    (i : ℕ) : Type 0 where
  pub within : i < length ms
  pub well : WellTree (tree_at ms i)
  pub fitting : fits (tree_at ms i) ns ≡ true
  pub slots : slots_over (tree_at ms i) ns ≡ put_slot n a k (slots_over t ns)
