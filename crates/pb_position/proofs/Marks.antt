-- Marks, and what begins by them.
use Rattle.std.proofs.Common.{◌≡◌, ◌≢◌, ◌<◌, ◌++◌, length, set, get_or-set_same, get_or-set_other, eq-eqb, arith, ℕ, List, [], ◌∷◌, get_or, Bool, true, false, not, ◌&&◌, ◌||◌, nat_eq, cond, Some, None, refl, sym, ap, ◌∙◌}
use Rattle.std.proofs.lemmas.Bool.{eqb-true}
use Rattle.pb_semantics.proofs.Bools.{untrue}
use Rattle.pb_language.specs.Machine.{is_marked, unmarked}
use Rattle.pb_machine.specs.Hosts.{FlatHost}
use Rattle.pb_position.specs.Texts.{text_of, texts_of}
use Rattle.pb_position.specs.Positions.{IsAs}
use Rattle.pb_position.specs.Calls.{BeginsTask}
use Rattle.pb_position.specs.declared.position.Position.{Position}

are_same_numbers : (a b : ℕ) → nat_eq a b ≡ true → a ≡ b
are_same_numbers a b h = eqb-true a b h

-- what a mark that is cleared leaves
cleared_of_head : (k n m : ℕ) (kn nm x y : Bool) → nat_eq k n ≡ kn → nat_eq n m ≡ nm → y ≡ not kn && x → cond nm y (nat_eq k m || y) ≡ not kn && (nat_eq k m || x)
cleared_of_head k n m true true x y e f g = g
cleared_of_head k n m true false x y e f g = ap (λ b. b || y) (ap (λ i. nat_eq i m) (are_same_numbers k n e) ∙ f) ∙ g
cleared_of_head k n m false true x y e f g = g ∙ ap (λ b. b || x) (sym e ∙ ap (nat_eq k) (are_same_numbers n m f))
cleared_of_head k n m false false x y e f g = ap (λ b. nat_eq k m || b) g

is_marked_by_cases : (k : ℕ) (b : Bool) (xs ys : List ℕ) → is_marked k (cond b xs ys) ≡ cond b (is_marked k xs) (is_marked k ys)
is_marked_by_cases k true xs ys = refl
is_marked_by_cases k false xs ys = refl

and-false : (b : Bool) → b && false ≡ false
and-false true = refl
and-false false = refl

only_that_mark_is_cleared : (k n : ℕ) (ms : List ℕ) → is_marked k (unmarked n ms) ≡ not (nat_eq k n) && is_marked k ms
only_that_mark_is_cleared k n [] = sym (and-false (not (nat_eq k n)))
only_that_mark_is_cleared k n (m ∷ ms) =
    is_marked_by_cases k (nat_eq n m) (unmarked n ms) (m ∷ unmarked n ms)
    ∙ cleared_of_head k n m (nat_eq k n) (nat_eq n m) (is_marked k ms) (is_marked k (unmarked n ms)) refl refl (only_that_mark_is_cleared k n ms)

-- a mark that wasn't there is no loss
no_mark_is_no_loss : (m n : ℕ) (ms : List ℕ) (q : Bool) → nat_eq m n ≡ q → is_marked n ms ≡ false → not q && is_marked m ms ≡ is_marked m ms
no_mark_is_no_loss m n ms true e h = sym (ap (λ k. is_marked k ms) (are_same_numbers m n e) ∙ h)
no_mark_is_no_loss m n ms false e h = refl

module _ (n : ℕ) (p r : Position) (cleared_is : (m : ℕ) → get_or r.marks.items m false ≡ not (nat_eq m n) && get_or p.marks.items m false) (rest : record r { marks = p.marks } ≡ p) where
  marks_are_left : (was : Bool) (h : FlatHost) → IsAs p h → is_marked n h.marks ≡ was → (j : ℕ) → get_or r.marks.items j false ≡ is_marked j (cond was (unmarked n h.marks) h.marks)
  marks_are_left true h i e j = cleared_is j ∙ ap (λ x. not (nat_eq j n) && x) (i.marks j) ∙ sym (only_that_mark_is_cleared j n h.marks)
  marks_are_left false h i e j = cleared_is j ∙ ap (λ x. not (nat_eq j n) && x) (i.marks j) ∙ no_mark_is_no_loss j n h.marks (nat_eq j n) refl e

  pub handler_begins_by_its_mark : (was : Bool) → was ≡ get_or p.marks.items n false → BeginsTask (Some n) p r was
  handler_begins_by_its_mark was e = record {
    test = λ h i. ap not (sym (e ∙ i.marks n));
    marks = λ h i. record {
      marks = marks_are_left was h i (sym (e ∙ i.marks n));
      failure = ap (λ (x : Position). text_of x.failure) rest ∙ i.failure;
      rescues = ap (λ (x : Position). texts_of x.rescues.items) rest ∙ i.rescues;
      holds = ap (λ (x : Position). texts_of x.holds.items) rest ∙ i.holds;
    };
  }

pub task_begins : (p : Position) → BeginsTask None p p true
task_begins p = record { test = λ h i. refl; marks = λ h i. record { marks = i.marks; failure = i.failure; rescues = i.rescues; holds = i.holds } }

behind_is_marked : (n x : ℕ) (ys : List ℕ) (q : Bool) → nat_eq n x ≡ q → is_marked n (ys ++ x ∷ []) ≡ is_marked n ys || q
behind_is_marked n x [] q e = ap (λ b. b || false) e ∙ or-false q where
  or-false : (b : Bool) → b || false ≡ b
  or-false true = refl
  or-false false = refl
behind_is_marked n x (y ∷ ys) q e = ap (λ b. nat_eq n y || b) (behind_is_marked n x ys q e) ∙ or-join (nat_eq n y) (is_marked n ys) q where
  or-join : (a b c : Bool) → a || (b || c) ≡ (a || b) || c
  or-join true b c = refl
  or-join false b c = refl

-- one more mark
pub one_more_is_marked : (marks : List Bool) (ys : List ℕ) (x n : ℕ) (i : Bool) → x < length marks → get_or marks n false ≡ is_marked n ys || i → get_or (set marks x true) n false ≡ is_marked n (ys ++ x ∷ []) || i
one_more_is_marked marks ys x n i h e = put (nat_eq n x) refl where
  put : (q : Bool) → nat_eq n x ≡ q → get_or (set marks x true) n false ≡ is_marked n (ys ++ x ∷ []) || i
  put true f =
      let same : n ≡ x = are_same_numbers n x f in
      let there : n < length marks = omega arith in
      ap (λ k. get_or (set marks k true) n false) (sym same) ∙ get_or-set_same marks n true false there ∙ sym (ap (λ b. b || i) (behind_is_marked n x ys true f ∙ or-true (is_marked n ys))) where
        or-true : (b : Bool) → b || true ≡ true
        or-true true = refl
        or-true false = refl
  put false f =
      let other : n ≢ x = λ same. untrue (sym f ∙ ap (λ k. nat_eq k x) same ∙ eq-eqb x x refl) in
      get_or-set_other marks x n true false other ∙ e ∙ sym (ap (λ b. b || i) (behind_is_marked n x ys false f ∙ or-false (is_marked n ys))) where
        or-false : (b : Bool) → b || false ≡ b
        or-false true = refl
        or-false false = refl
