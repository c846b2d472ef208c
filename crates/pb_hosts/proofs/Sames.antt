-- Kinds, slots and cases that are told to be the same are.
use Rattle.std.proofs.Common.{◌≡◌, ℕ, List, [], ◌∷◌, Bool, true, false, ◌&&◌, bytes_eq, refl, ap, ap₂, ◌∙◌, arith}
use Rattle.std.specs.Prelude.{nat_eq}
use Rattle.std.proofs.lemmas.Bool.{eqb-true}
use Rattle.pb_semantics.specs.Kind.{KindData, Slots, Cases, Shape, Spot, never, nulls, booleans, ints, texts, hosts, lists, recs, results, anything, no_slots, slot, no_cases, one, ok_shape, failure_shape, skipped_shape, nowhere, spot}
use Rattle.pb_semantics.proofs.Bools.{untrue, and-left, and-right, and-both}
use Rattle.pb_semantics.proofs.Names.{same_name, own_name}
use Rattle.pb_language.specs.Expression.{Name}
use Rattle.pb_language.specs.Same.{same_names}
use Rattle.pb_hosts.specs.Equal.{same_flag, same_shape, same_kind, same_slots, same_cases, same_spot}

flag_is : (a b : Bool) → same_flag a b ≡ true → a ≡ b
flag_is true true h = refl
flag_is true false h = untrue h
flag_is false true h = untrue h
flag_is false false h = refl

own_flag : (a : Bool) → same_flag a a ≡ true
own_flag true = refl
own_flag false = refl

shape_is : (s t : Shape) → same_shape s t ≡ true → s ≡ t
shape_is ok_shape ok_shape h = refl
shape_is failure_shape failure_shape h = refl
shape_is skipped_shape skipped_shape h = refl
shape_is s t h = untrue h

own_shape : (s : Shape) → same_shape s s ≡ true
own_shape ok_shape = refl
own_shape failure_shape = refl
own_shape skipped_shape = refl

names_are : (ns ms : List Name) → same_names ns ms ≡ true → ns ≡ ms
names_are [] [] h = refl
names_are [] (m ∷ ms) h = untrue h
names_are (n ∷ ns) [] h = untrue h
names_are (n ∷ ns) (m ∷ ms) h = ap₂ (λ x xs. x ∷ xs) (same_name n m (and-left (bytes_eq n m) (same_names ns ms) h)) (names_are ns ms (and-right (bytes_eq n m) (same_names ns ms) h))

own_names : (ns : List Name) → same_names ns ns ≡ true
own_names [] = refl
own_names (n ∷ ns) = and-both (bytes_eq n n) (same_names ns ns) (own_name n) (own_names ns)

same_count : (n : ℕ) → nat_eq n n ≡ true
same_count n = grind arith

mutual
  pub kind_is : (k m : KindData) → same_kind k m ≡ true → k ≡ m
  kind_is never never h = refl
  kind_is nulls nulls h = refl
  kind_is booleans booleans h = refl
  kind_is ints ints h = refl
  kind_is texts texts h = refl
  kind_is (hosts ns) (hosts ms) h = ap hosts (names_are ns ms h)
  kind_is (lists k n) (lists m j) h =
      let e : k ≡ m = kind_is k m (and-left (same_kind k m) (nat_eq n j) h) in
      let f : n ≡ j = eqb-true n j (and-right (same_kind k m) (nat_eq n j) h) in
      ap₂ (λ x y. lists x y) e f
  kind_is (recs ss) (recs ts) h = ap recs (slots_are ss ts h)
  kind_is (results cs k) (results ds m) h = ap₂ (λ x y. results x y) (cases_are cs ds (and-left (same_cases cs ds) (same_kind k m) h)) (kind_is k m (and-right (same_cases cs ds) (same_kind k m) h))
  kind_is anything anything h = refl
  kind_is k m h = untrue h

  pub slots_are : (ss ts : Slots) → same_slots ss ts ≡ true → ss ≡ ts
  slots_are no_slots no_slots h = refl
  slots_are (slot n a k ss) (slot m b j ts) h =
      let later = and-right (bytes_eq n m) (same_flag a b && (same_kind k j && same_slots ss ts)) h in
      let last = and-right (same_flag a b) (same_kind k j && same_slots ss ts) later in
      let name : n ≡ m = same_name n m (and-left (bytes_eq n m) (same_flag a b && (same_kind k j && same_slots ss ts)) h) in
      let flag : a ≡ b = flag_is a b (and-left (same_flag a b) (same_kind k j && same_slots ss ts) later) in
      let kind : k ≡ j = kind_is k j (and-left (same_kind k j) (same_slots ss ts) last) in
      let rest : ss ≡ ts = slots_are ss ts (and-right (same_kind k j) (same_slots ss ts) last) in
      ap (λ x. slot x a k ss) name ∙ ap (λ x. slot m x k ss) flag ∙ ap (λ x. slot m b x ss) kind ∙ ap (slot m b j) rest
  slots_are ss ts h = untrue h

  cases_are : (cs ds : Cases) → same_cases cs ds ≡ true → cs ≡ ds
  cases_are no_cases no_cases h = refl
  cases_are (one n s f k cs) (one m t g j ds) h =
      let after_name = and-right (bytes_eq n m) (same_shape s t && (same_flag f g && (same_kind k j && same_cases cs ds))) h in
      let after_shape = and-right (same_shape s t) (same_flag f g && (same_kind k j && same_cases cs ds)) after_name in
      let after_flag = and-right (same_flag f g) (same_kind k j && same_cases cs ds) after_shape in
      let name : n ≡ m = same_name n m (and-left (bytes_eq n m) (same_shape s t && (same_flag f g && (same_kind k j && same_cases cs ds))) h) in
      let shape : s ≡ t = shape_is s t (and-left (same_shape s t) (same_flag f g && (same_kind k j && same_cases cs ds)) after_name) in
      let flag : f ≡ g = flag_is f g (and-left (same_flag f g) (same_kind k j && same_cases cs ds) after_shape) in
      let kind : k ≡ j = kind_is k j (and-left (same_kind k j) (same_cases cs ds) after_flag) in
      let rest : cs ≡ ds = cases_are cs ds (and-right (same_kind k j) (same_cases cs ds) after_flag) in
      ap (λ x. one x s f k cs) name ∙ ap (λ x. one m x f k cs) shape ∙ ap (λ x. one m t x k cs) flag ∙ ap (λ x. one m t g x cs) kind ∙ ap (one m t g j) rest
  cases_are cs ds h = untrue h

mutual
  pub own_kind : (k : KindData) → same_kind k k ≡ true
  own_kind never = refl
  own_kind nulls = refl
  own_kind booleans = refl
  own_kind ints = refl
  own_kind texts = refl
  own_kind (hosts ns) = own_names ns
  own_kind (lists k n) = and-both (same_kind k k) (nat_eq n n) (own_kind k) (same_count n)
  own_kind (recs ss) = own_slots ss
  own_kind (results cs k) = and-both (same_cases cs cs) (same_kind k k) (own_cases cs) (own_kind k)
  own_kind anything = refl

  pub own_slots : (ss : Slots) → same_slots ss ss ≡ true
  own_slots no_slots = refl
  own_slots (slot n a k ss) =
      and-both (bytes_eq n n) (same_flag a a && (same_kind k k && same_slots ss ss)) (own_name n)
      (and-both (same_flag a a) (same_kind k k && same_slots ss ss) (own_flag a) (and-both (same_kind k k) (same_slots ss ss) (own_kind k) (own_slots ss)))

  own_cases : (cs : Cases) → same_cases cs cs ≡ true
  own_cases no_cases = refl
  own_cases (one n s f k cs) =
      and-both (bytes_eq n n) (same_shape s s && (same_flag f f && (same_kind k k && same_cases cs cs))) (own_name n)
      (and-both (same_shape s s) (same_flag f f && (same_kind k k && same_cases cs cs)) (own_shape s)
      (and-both (same_flag f f) (same_kind k k && same_cases cs cs) (own_flag f) (and-both (same_kind k k) (same_cases cs cs) (own_kind k) (own_cases cs))))

pub spot_is : (s t : Spot) → same_spot s t ≡ true → s ≡ t
spot_is nowhere nowhere h = refl
spot_is (spot a k) (spot b m) h = ap₂ (λ x y. spot x y) (flag_is a b (and-left (same_flag a b) (same_kind k m) h)) (kind_is k m (and-right (same_flag a b) (same_kind k m) h))
spot_is s t h = untrue h

pub own_spot : (s : Spot) → same_spot s s ≡ true
own_spot nowhere = refl
own_spot (spot a k) = and-both (same_flag a a) (same_kind k k) (own_flag a) (own_kind k)

-- what is the same is told to be
pub slots_same : (ss ts : Slots) → ss ≡ ts → same_slots ss ts ≡ true
slots_same ss ts e = ap (λ us. same_slots us ts) e ∙ own_slots ts

pub spot_same : (s t : Spot) → s ≡ t → same_spot s t ≡ true
spot_same s t e = ap (λ u. same_spot u t) e ∙ own_spot t
