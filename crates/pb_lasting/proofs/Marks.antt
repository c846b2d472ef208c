-- Marks of names, node by node.
use Rattle.std.proofs.Common.{◌≡◌, ◌<◌, ◌≤◌, ℕ, suc, max, replicate, List, [], ◌∷◌, ◌++◌, length, map, Bool, true, false, not, ◌&&◌, cond, String, Global, string_bytes, slice_index_or, refl, sym, ap, subst, ◌∙◌, arith, All}
use Rattle.std.proofs.lemmas.List.{length-map}
use Rattle.std.proofs.lemmas.List.Elements.{All-cons, All-nil}
use Rattle.std.proofs.lemmas.List.Recursion.{max_bounds, max_least, max_push}
use Rattle.std.proofs.lemmas.List.Sorted.{All-permutation, IsPermutation-sym}
use Rattle.std.proofs.lemmas.Simd.{splat_is_map}
use Rattle.std.specs.List.Sorted.{IsPermutation}
use Rattle.pb_semantics.specs.Kind.{slot_at}
use Rattle.pb_semantics.proofs.Bools.{untrue}
use Rattle.pb_language.specs.Expression.{Name}
use Rattle.pb_language.specs.Judgement.{Exit, dead, live}
use Rattle.pb_language.specs.Scope.{is_certain}
use Rattle.pb_language.specs.Tables.{certain_from}
use Rattle.pb_language.specs.Walk.{Visit}
use Rattle.pb_lattice.specs.Arena.{names_of}
use Rattle.pb_lattice.specs.Environments.{is_dead, spot_in}
use Rattle.pb_lattice.specs.Lost.{lost_marks}
use Rattle.pb_hosts.specs.Tables.{never_lasts}
use Rattle.pb_lasting.specs.Losses.{AreAll, AreMarks, InOrder, lost_among, lost_at, mark_of}

-- how the marks stand once some nodes are counted and others are left: of a name that is certain at all that are left, or at none
pub record Counted (names : List Name) (end : Exit) (val : ℕ → Exit) (done left : List (ℕ × ℕ)) (from : List ℕ) : Type 0 where
  pub mark : Name → ℕ
  pub marks : from ≡ map mark names
  pub small : (n : Name) → lost_among n val done < never_lasts
  pub lasting : (n : Name) → AreAll true n end val left → mark n ≡ lost_among n val done
  pub lost : (n : Name) → AreAll false n end val left → mark n ≡ never_lasts

-- marks that go by the names stay so
marks-map : (m : ℕ) (e f : Exit) (g : Name → ℕ) (ns : List Name) → lost_marks m e f ns (map g ns) ≡ map (λ n. cond (is_certain (spot_in n e) && not (is_certain (spot_in n f))) m (g n)) ns
marks-map m e f g [] = refl
marks-map m e f g (n ∷ ns) = ap (λ ks. cond (is_certain (spot_in n e) && not (is_certain (spot_in n f))) m (g n) ∷ ks) (marks-map m e f g ns)

same_map : (g h : Name → ℕ) → ((n : Name) → g n ≡ h n) → (ns : List Name) → map g ns ≡ map h ns
same_map g h same [] = refl
same_map g h same (n ∷ ns) = let here = same n in let rest = same_map g h same ns in rw (here, rest) refl

-- no name is marked
pub none_marked : (texts : List (String Global)) (names : List Name) → names_of texts ≡ names → replicate (length texts) never_lasts ≡ map (λ n. never_lasts) names
none_marked texts names h = splat_is_map names (length texts) never_lasts (ap length (sym h) ∙ length-map texts (λ t. string_bytes t))

-- at first each name that is certain at the end is marked with 0
pub none_counted : (names : List Name) (end empty : Exit) (val : ℕ → Exit) (left : List (ℕ × ℕ)) (ks from : List ℕ) → ((n : Name) → is_certain (spot_in n empty) ≡ false) → ks ≡ map (λ n. never_lasts) names → from ≡ lost_marks 0 end empty names ks
    → Counted names end val [] left from
none_counted names end empty val left ks from bare first marked = record {
  mark = mark_of end (λ n. 0);
  marks = marked ∙ ap (lost_marks 0 end empty names) first ∙ marks-map 0 end empty (λ n. never_lasts) names ∙ same_map (λ n. cond (is_certain (spot_in n end) && not (is_certain (spot_in n empty))) 0 never_lasts) (mark_of end (λ n. 0)) (λ n. here (is_certain (spot_in n end)) (is_certain (spot_in n empty)) (bare n)) names;
  small = λ n. some_mark;
  lasting = λ n are. ap (λ q. cond q 0 never_lasts) are.last;
  lost = λ n are. ap (λ q. cond q 0 never_lasts) are.last;
} where
  some_mark : 0 < never_lasts
  some_mark = omega arith

  here : (a b : Bool) → b ≡ false → cond (a && not b) 0 never_lasts ≡ cond a 0 never_lasts
  here a true e = untrue (sym e)
  here true false e = refl
  here false false e = refl

-- the mark of a name once a node is counted: of what is certain there, and at a later one
abbrev marked : Bool → Bool → ℕ → ℕ → ℕ
marked c d p m = cond (c && not d) never_lasts (cond (d && not c) (suc p) m)

lasting_step : (c d : Bool) (p m loss lost : ℕ) → d ≡ true → loss ≡ cond c 0 (suc p) → lost ≤ suc p → (c ≡ true → m ≡ lost) → marked c d p m ≡ max lost loss
lasting_step true true p m loss lost h here low was = let is = was refl in omega (arith, here, is)
lasting_step false true p m loss lost h here low was = omega (arith, here, low)
lasting_step c false p m loss lost h here low was = untrue h

lost_step : (c d : Bool) (p m : ℕ) → d ≡ false → (c ≡ false → m ≡ never_lasts) → marked c d p m ≡ never_lasts
lost_step true false p m h was = refl
lost_step false false p m h was = was refl
lost_step c true p m h was = untrue (sym h)

loss_here : (n : Name) (p : ℕ) (e : Exit) → is_dead e ≡ false → lost_at n p e ≡ cond (is_certain (spot_in n e)) 0 (suc p)
loss_here n p dead h = untrue (sym h)
loss_here n p (live ss) h = refl

most_at : (n : Name) (p q : ℕ) (e : Exit) → p ≤ q → lost_at n p e ≤ suc q
most_at n p q dead h = omega arith
most_at n p q (live ss) h = most (is_certain (slot_at n ss)) where
  most : (b : Bool) → cond b 0 (suc p) ≤ suc q
  most true = omega arith
  most false = omega (arith, h)

-- at nodes at no later place nothing is lost past it
most_lost : (n : Name) (q : ℕ) (val : ℕ → Exit) (xs : List (ℕ × ℕ)) → All (λ x. x.0 ≤ q) xs → lost_among n val xs ≤ suc q
most_lost n q val xs low = max_least (lost_among n val) (λ x. lost_at n x.0 (val x.1)) refl (λ x xs. refl) xs (0, 0) (suc q) (λ i lt. most_at n (slice_index_or xs i (0, 0)).0 q (val (slice_index_or xs i (0, 0)).1) (low i (0, 0) lt))

lost_more : (n : Name) (val : ℕ → Exit) (xs : List (ℕ × ℕ)) (x : ℕ × ℕ) → lost_among n val (xs ++ x ∷ []) ≡ max (lost_among n val xs) (lost_at n x.0 (val x.1))
lost_more n val xs x = max_push (lost_among n val) (λ y. lost_at n y.0 (val y.1)) refl (λ y ys. refl) xs x

more_all : (b : Bool) (n : Name) (end : Exit) (val : ℕ → Exit) (x : ℕ × ℕ) (xs : List (ℕ × ℕ)) → is_certain (spot_in n (val x.1)) ≡ b → AreAll b n end val xs → AreAll b n end val (x ∷ xs)
more_all b n end val x xs h are = record { last = are.last; others = All-cons (λ y. is_certain (spot_in n (val y.1)) ≡ b) x xs h are.others }

-- one node more, at a place that is no earlier than the others'
pub counted_too : (names : List Name) (end : Exit) (val : ℕ → Exit) (done left : List (ℕ × ℕ)) (x : ℕ × ℕ) (next : Exit) (old new : List ℕ) → All (λ y. y.0 ≤ x.0) done → is_dead (val x.1) ≡ false → suc x.0 < never_lasts
    → ((n : Name) (b : Bool) → AreAll b n end val left → is_certain (spot_in n next) ≡ b) → new ≡ lost_marks never_lasts (val x.1) next names (lost_marks (suc x.0) next (val x.1) names old)
    → Counted names end val done (x ∷ left) old → Counted names end val (done ++ x ∷ []) left new
counted_too names end val done left x next old new low alive few same marks was = record {
  mark = mark;
  marks = marks ∙ ap (λ ks. lost_marks never_lasts at next names (lost_marks (suc x.0) next at names ks)) was.marks ∙ ap (lost_marks never_lasts at next names) (marks-map (suc x.0) next at was.mark names)
      ∙ marks-map never_lasts at next (λ n. cond (is_certain (spot_in n next) && not (is_certain (spot_in n at))) (suc x.0) (was.mark n)) names;
  small = λ n. subst (λ k. k < never_lasts) (sym (lost_more n val done x)) (omega (arith, was.small n, few, most_at n x.0 x.0 at (omega arith)));
  lasting = λ n are.
      lasting_step (is_certain (spot_in n at)) (is_certain (spot_in n next)) x.0 (was.mark n) (lost_at n x.0 at) (lost_among n val done) (same n true are) (loss_here n x.0 at alive) (most_lost n x.0 val done low)
      (λ h. was.lasting n (more_all true n end val x left h are)) ∙ sym (lost_more n val done x);
  lost = λ n are. lost_step (is_certain (spot_in n at)) (is_certain (spot_in n next)) x.0 (was.mark n) (same n false are) (λ h. was.lost n (more_all false n end val x left h are));
} where
  at : Exit
  at = val x.1

  mark : Name → ℕ
  mark n = marked (is_certain (spot_in n at)) (is_certain (spot_in n next)) x.0 (was.mark n)

-- in which order the nodes are counted makes no difference
same_lost : (n : Name) (val : ℕ → Exit) (xs ys : List (ℕ × ℕ)) → IsPermutation xs ys → lost_among n val xs ≡ lost_among n val ys
same_lost n val xs ys h =
    let up = below ys xs (IsPermutation-sym xs ys h) in
    let down = below xs ys h in
    omega (arith, up, down) where
      below : (xs ys : List (ℕ × ℕ)) → IsPermutation xs ys → lost_among n val ys ≤ lost_among n val xs
      below xs ys h = max_least (lost_among n val) (λ x. lost_at n x.0 (val x.1)) refl (λ x xs. refl) ys (0, 0) (lost_among n val xs)
          (λ i lt. All-permutation (λ x. lost_at n x.0 (val x.1) ≤ lost_among n val xs) xs ys h (λ k d in'. max_bounds (lost_among n val) (λ x. lost_at n x.0 (val x.1)) refl (λ x xs. refl) xs k d in') i (0, 0) lt)

-- once all nodes of the way are counted
pub all_counted : (names : List Name) (end : Exit) (val : ℕ → Exit) (xs ys : List (ℕ × ℕ)) (from : List ℕ) (vs : List Visit) → InOrder xs ys → ((n : Name) → certain_from n vs ≡ lost_among n val xs)
    → Counted names end val ys [] from → AreMarks names end vs from
all_counted names end val xs ys from vs is same counted = record {
  small = λ n. subst (λ k. k < never_lasts) (all n) (counted.small n);
  marks = counted.marks ∙ same_map counted.mark (mark_of end (λ n. certain_from n vs)) (λ n. last n (is_certain (spot_in n end)) refl) names;
} where
  all : (n : Name) → lost_among n val ys ≡ certain_from n vs
  all n = sym (same n ∙ same_lost n val xs ys is.same)

  ends : (n : Name) (b : Bool) → is_certain (spot_in n end) ≡ b → AreAll b n end val []
  ends n b h = record { last = h; others = All-nil (λ x. is_certain (spot_in n (val x.1)) ≡ b) }

  last : (n : Name) (b : Bool) → is_certain (spot_in n end) ≡ b → counted.mark n ≡ cond (is_certain (spot_in n end)) (certain_from n vs) never_lasts
  last n true h = counted.lasting n (ends n true h) ∙ all n ∙ ap (λ q. cond q (certain_from n vs) never_lasts) (sym h)
  last n false h = counted.lost n (ends n false h) ∙ ap (λ q. cond q (certain_from n vs) never_lasts) (sym h)
