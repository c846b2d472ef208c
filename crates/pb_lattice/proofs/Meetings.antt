-- One level of two trees that are joined.
use Rattle.std.proofs.Common.{◌≡◌, ℕ, ◌<◌, ◌&&◌, nat_lt, true, false, refl, ap, ◌∙◌, arith}
use Rattle.pb_semantics.specs.Join.{join}
use Rattle.pb_semantics.specs.Well.{Well}
use Rattle.pb_semantics.proofs.Bools.{and-left, and-right}
use Rattle.pb_semantics.proofs.JoinWell.{joins_well}
use Rattle.pb_kind.specs.KindView.{is_always, kind_view}
use Rattle.pb_kind.specs.declared.kind.Slot.{Slot}
use Rattle.pb_kind.specs.declared.kind.Kind.{Kind}
use Rattle.pb_lattice.specs.Trees.{Tree, bare, known, fork, WellTree, are_alike}
use Rattle.pb_lattice.specs.Arena.{part_view, are_parts_below, IsMeeting}
use Rattle.pb_lattice.specs.declared.tree.Part.{Part}
use Rattle.pb_lattice.specs.declared.tree.Part.TheVariants as part
use Rattle.pb_lattice.specs.declared.tree.Meeting.TheVariants as meeting
use Rattle.pb_lattice.proofs.TreeOrder.{bare_known_join, known_bare_join, known_join, fork_bare_join}
use Rattle.pb_lattice.proofs.Places.{is_less}

module _ (f : ℕ → Tree) (i j : ℕ) (p q : Part) (first : f i ≡ part_view f p) (second : f j ≡ part_view f q) where
  pub bare_known_meets : (s r : Slot Kind) → p ≡ part.Bare → q ≡ part.Known s → WellTree (f j) → is_always r.presence ≡ false → kind_view r.kind ≡ kind_view s.kind → IsMeeting f i j (meeting.Known r)
  bare_known_meets s r a b w x y =
      let t : f i ≡ bare = first ∙ ap (part_view f) a in
      let u : f j ≡ known (is_always s.presence) (kind_view s.kind) = second ∙ ap (part_view f) b in
      let well : Well (kind_view s.kind) = rw u at w in
      (rw y well, rw (t, u, x, y) (bare_known_join (is_always s.presence) (kind_view s.kind) well))

  pub known_bare_meets : (s r : Slot Kind) → p ≡ part.Known s → q ≡ part.Bare → WellTree (f i) → is_always r.presence ≡ false → kind_view r.kind ≡ kind_view s.kind → IsMeeting f i j (meeting.Known r)
  known_bare_meets s r a b w x y =
      let t : f i ≡ known (is_always s.presence) (kind_view s.kind) = first ∙ ap (part_view f) a in
      let u : f j ≡ bare = second ∙ ap (part_view f) b in
      let well : Well (kind_view s.kind) = rw t at w in
      (rw y well, rw (t, u, x, y) (known_bare_join (is_always s.presence) (kind_view s.kind) well))

  pub known_meets : (s o r : Slot Kind) → p ≡ part.Known s → q ≡ part.Known o → WellTree (f i) → WellTree (f j) → is_always r.presence ≡ is_always s.presence && is_always o.presence
      → kind_view r.kind ≡ join (kind_view s.kind) (kind_view o.kind) → IsMeeting f i j (meeting.Known r)
  known_meets s o r a b w v x y =
      let t : f i ≡ known (is_always s.presence) (kind_view s.kind) = first ∙ ap (part_view f) a in
      let u : f j ≡ known (is_always o.presence) (kind_view o.kind) = second ∙ ap (part_view f) b in
      let own : Well (kind_view s.kind) = rw t at w in
      let other : Well (kind_view o.kind) = rw u at v in
      (rw y (joins_well (kind_view s.kind) (kind_view o.kind) own other), rw (t, u, x, y) (known_join (is_always s.presence) (is_always o.presence) (kind_view s.kind) (kind_view o.kind) own other))

  pub fork_bare_meets : (l r : ℕ) → p ≡ part.Fork l r → q ≡ part.Bare → are_parts_below i p ≡ true → IsMeeting f i j (meeting.Forks (l, j) (r, j))
  fork_bare_meets l r a b lt =
      let t : f i ≡ fork (f l) (f r) = first ∙ ap (part_view f) a in
      let u : f j ≡ bare = second ∙ ap (part_view f) b in
      let under : nat_lt l i && nat_lt r i ≡ true = rw a at lt in
      let left = is_less l i (and-left (nat_lt l i) (nat_lt r i) under) in
      let right = is_less r i (and-right (nat_lt l i) (nat_lt r i) under) in (
        record { first = omega arith; second = omega arith; before = omega arith; alike = rw u (alike_bare (f l)) },
        record { first = omega arith; second = omega arith; before = omega arith; alike = rw u (alike_bare (f r)) },
        λ v w x y. rw (t, u) (fork_bare_join (f l) (f r) v w (rw u at x) (rw u at y)),
      )
    where
      alike_bare : (t : Tree) → are_alike t bare ≡ true
      alike_bare bare = refl
      alike_bare (known a k) = refl
      alike_bare (fork l r) = refl

-- a fork, and its parts before it
pub record Forked (f : ℕ → Tree) (i l r : ℕ) : Type 0 where
  pub means : f i ≡ fork (f l) (f r)
  pub left : l < i
  pub right : r < i

pub forked : (f : ℕ → Tree) (i : ℕ) (p : Part) (l r : ℕ) → f i ≡ part_view f p → p ≡ part.Fork l r → are_parts_below i p ≡ true → Forked f i l r
forked f i p l r means is lt =
    let under : nat_lt l i && nat_lt r i ≡ true = rw is at lt in
    record {
      means = means ∙ ap (part_view f) is;
      left = is_less l i (and-left (nat_lt l i) (nat_lt r i) under);
      right = is_less r i (and-right (nat_lt l i) (nat_lt r i) under);
    }
