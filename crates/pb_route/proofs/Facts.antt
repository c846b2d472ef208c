-- What a module sets that gathers facts.
use Rattle.std.proofs.Common.{◌≡◌, ◌∙◌, Bool, true, false, ◌&&◌, cond, codes, List, [], length, ℕ, refl, sym, ap, ◌∷◌, arith}
use Rattle.pb_semantics.specs.Kind.{KindData, Slots, Spot, recs, no_slots, spot, slot_at}
use Rattle.pb_semantics.specs.Signature.{ModuleData}
use Rattle.pb_language.specs.Cases.{Sets, sets, no_sets, facts_set, gathered, is_lawful_shape, is_setup, shape_slots, slots_of, stripped_slots}
use Rattle.pb_route.specs.Gathered.{module_sets}

pub both_hold : (a b p : Bool) → a ≡ true → b ≡ p → b ≡ a && p
both_hold a b p h i = i ∙ ap (λ x. x && p) (sym h)

pub none_holds : (a b p : Bool) → a ≡ false → b ≡ a → b ≡ a && p
none_holds a b p h i = i ∙ h ∙ ap (λ x. x && p) (sym h)

-- the facts of a record
pub gathered_record : (a b p : Bool) (k : KindData) (ss : Slots) (s : Spot) → b ≡ a && p → k ≡ recs ss → s ≡ spot p k → sets (codes "ansible_facts") b (recs (stripped_slots ss)) (facts_set b ss) ≡ gathered a s
gathered_record a b p k ss s e h i =
    ap (λ x. sets (codes "ansible_facts") x (recs (stripped_slots ss)) (facts_set x ss)) e ∙ sym (ap (λ j. gathered a (spot p j)) h) ∙ sym (ap (gathered a) i)

shape_record : (k : KindData) (ss : Slots) → is_lawful_shape k ≡ true → k ≡ recs ss → shape_slots k ≡ ss
shape_record k ss h e = ap (λ q. cond q (slots_of k) no_slots) h ∙ ap slots_of e

pub gathered_by : (m : ModuleData) (b : Bool) (k : KindData) (ss : Slots) (s : Spot) (x : Sets) → is_setup m ≡ true → k ≡ m.ok → is_lawful_shape k ≡ true → k ≡ recs ss
    → s ≡ slot_at (codes "ansible_facts") ss → x ≡ gathered b s → x ≡ module_sets m b
gathered_by m b k ss s x setup is lawful shape found h =
    h ∙ ap (gathered b) (found ∙ ap (slot_at (codes "ansible_facts")) (sym (shape_record k ss lawful shape)) ∙ ap (λ j. slot_at (codes "ansible_facts") (shape_slots j)) is)
    ∙ sym (ap (λ q. cond q (gathered b (slot_at (codes "ansible_facts") (shape_slots m.ok))) no_sets) setup)

pub nothing_left : {A : Type 0} (xs : List A) (n : ℕ) → length xs ≡ n → n ≡ 0 → xs ≡ []
nothing_left [] n h i = refl
nothing_left (x ∷ xs) n h i = absurd (omega (arith, h, i))
