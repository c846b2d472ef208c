-- Facts by their names without the prefix, put in one after the other.
use Rattle.std.proofs.Common.{◌≡◌, ◌==◌, ℕ, List, [], ◌∷◌, ◌++◌, Bool, true, false, ◌&&◌, cond, nat_eq, bytes_eq, Option, Some, None, option_map, Bor, length, take, drop, refl, sym, ap, ◌∙◌, subst}
use Rattle.std.specs.Cmp.Lexicographic.{pointwise}
use Rattle.std.specs.List.{starts_with}
use Rattle.std.specs.Option.{MatchOption}
use Rattle.std.specs.Str.{IsCharBoundary}
use Rattle.std.specs.Str.Pattern.{FindsTextPrefix, StripsPrefix}
use Rattle.std.proofs.lemmas.Str.Pattern.{starts_text}
use Rattle.pb_semantics.specs.Kind.{KindData, Slots, Spot, no_slots, slot, nowhere, spot, slot_at}
use Rattle.pb_semantics.proofs.Ascents.{Before, Ascend, ascend_put, before_unlisted, over, same_slots}
use Rattle.pb_semantics.proofs.Names.{same_name}
use Rattle.pb_semantics.proofs.PutSlots.{at_put}
use Rattle.pb_language.specs.Cases.{after_prefix, fact_prefix, stripped_slots, with_stripped}
use Rattle.pb_language.specs.Expression.{Name}
use Rattle.pb_language.proofs.WithSlot.{at_with}
use Rattle.pb_language.proofs.Placed.{put-placed}
use Rattle.pb_route.specs.Gathered.{put_named}

-- what follows a prefix is there where the name begins with it
short_step : (q r : Bool) (x : Option Name) → cond (q && true) (cond r x None) None ≡ cond (q && r) x None
short_step true r x = refl
short_step false r x = refl

after_prefix-starts : (p n : Name) → after_prefix p n ≡ cond (starts_with (λ a b. a == b) n p) (Some (drop (length p) n)) None
after_prefix-starts [] n = refl
after_prefix-starts (a ∷ p) [] = refl
after_prefix-starts (a ∷ p) (b ∷ n) =
    ap (λ x. cond (nat_eq a b && true) x None) (after_prefix-starts p n)
    ∙ short_step (nat_eq a b) (pointwise (λ a b. a == b) p (take (length p) n)) (Some (drop (length p) n))

abbrev pub IsStripped : Name → Option (Bor (List ℕ)) → Type 0
IsStripped n r = MatchOption r (FindsTextPrefix fact_prefix n None) (λ x. StripsPrefix (FindsTextPrefix fact_prefix) n x.now)

pub after_prefix-stripped : (n : Name) (r : Option (Bor (List ℕ))) → IsStripped n r → option_map (λ x. x.now) r ≡ after_prefix fact_prefix n
after_prefix-stripped n None h =
    let other : false ≡ starts_with (λ a b. a == b) n fact_prefix = starts_text false fact_prefix n h in
    ap (λ q. cond q (Some (drop (length fact_prefix) n)) None) other ∙ sym (after_prefix-starts fact_prefix n)
after_prefix-stripped n (Some x) h =
    let starts : true ≡ starts_with (λ a b. a == b) n fact_prefix = starts_text true fact_prefix n (h.0, h.1, subst (IsCharBoundary n) (sym h.1.0) h.1.2) in
    ap Some (h.2 ∙ ap (λ k. drop k n) h.1.0) ∙ ap (λ q. cond q (Some (drop (length fact_prefix) n)) None) starts ∙ sym (after_prefix-starts fact_prefix n)

-- the name is the prefix with that behind it
abbrev is_named : Name → Option Name → Bool
is_named p None = false
is_named p (Some n) = bytes_eq p n

named_step : (q b : Bool) (p : Name) (o : Option Name) → b ≡ is_named p o → q && b ≡ is_named p (cond (q && true) o None)
named_step true b p o e = e
named_step false b p o e = refl

prefixed : (pre p n : Name) → bytes_eq (pre ++ p) n ≡ is_named p (after_prefix pre n)
prefixed [] p n = refl
prefixed (a ∷ pre) p [] = refl
prefixed (a ∷ pre) p (b ∷ n) = named_step (nat_eq a b) (bytes_eq (pre ++ p) n) p (after_prefix pre n) (prefixed pre p n)

-- what the facts without their prefix say of a name
stripped_at : (p n : Name) (o : Option Name) (a : Bool) (k : KindData) (ss ts : Slots) → after_prefix fact_prefix n ≡ o → slot_at p ts ≡ slot_at (fact_prefix ++ p) ss
    → slot_at p (with_stripped o a k ts) ≡ slot_at (fact_prefix ++ p) (slot n a k ss)
stripped_at p n None a k ss ts e h = h ∙ ap (λ q. cond q (spot a k) (slot_at (fact_prefix ++ p) ss)) (sym (prefixed fact_prefix p n ∙ ap (is_named p) e))
stripped_at p n (Some m) a k ss ts e h =
    at_with p m a k ts ∙ ap (cond (bytes_eq p m) (spot a k)) h
    ∙ ap (λ q. cond q (spot a k) (slot_at (fact_prefix ++ p) ss)) (sym (prefixed fact_prefix p n ∙ ap (is_named p) e))

stripped_slots-at : (p : Name) (ss : Slots) → slot_at p (stripped_slots ss) ≡ slot_at (fact_prefix ++ p) ss
stripped_slots-at p no_slots = refl
stripped_slots-at p (slot n a k ss) = stripped_at p n (after_prefix fact_prefix n) a k ss (stripped_slots ss) refl (stripped_slots-at p ss)

ascend_stripped : (o : Option Name) (a : Bool) (k : KindData) (ss : Slots) → Ascend ss → Ascend (with_stripped o a k ss)
ascend_stripped None a k ss h = h
ascend_stripped (Some n) a k ss h = subst Ascend (put-placed n a k ss h) (ascend_put n a k ss h)

stripped_slots-ascend : (ss : Slots) → Ascend (stripped_slots ss)
stripped_slots-ascend no_slots = tt
stripped_slots-ascend (slot n a k ss) = ascend_stripped (after_prefix fact_prefix n) a k (stripped_slots ss) (stripped_slots-ascend ss)

-- so far done, and what is left
pub record IsStripping (all left done : Slots) : Type 0 where
  pub order : Ascend left
  pub rises : Ascend done
  pub at : (p : Name) → over (slot_at (fact_prefix ++ p) left) (slot_at p done) ≡ slot_at (fact_prefix ++ p) all

pub stripping_begins : (all : Slots) → Ascend all → IsStripping all all no_slots
stripping_begins all h = record { order = h; rises = tt; at = λ p. alone (slot_at (fact_prefix ++ p) all) } where
  alone : (s : Spot) → over s nowhere ≡ s
  alone nowhere = refl
  alone (spot a k) = refl

turn_step : (q a : Bool) (k : KindData) (s t : Spot) → (q ≡ true → s ≡ nowhere) → over s (cond q (spot a k) t) ≡ over (cond q (spot a k) s) t
turn_step true a k s t f = rw (f refl) refl
turn_step false a k s t f = refl

turn_at : (p n : Name) (o : Option Name) (a : Bool) (k : KindData) (rest done : Slots) → after_prefix fact_prefix n ≡ o → Before n rest
    → over (slot_at (fact_prefix ++ p) rest) (slot_at p (put_named o a k done)) ≡ over (slot_at (fact_prefix ++ p) (slot n a k rest)) (slot_at p done)
turn_at p n None a k rest done e h =
    ap (λ q. over (cond q (spot a k) (slot_at (fact_prefix ++ p) rest)) (slot_at p done)) (sym (prefixed fact_prefix p n ∙ ap (is_named p) e))
turn_at p n (Some m) a k rest done e h =
    let is : bytes_eq (fact_prefix ++ p) n ≡ bytes_eq p m = prefixed fact_prefix p n ∙ ap (is_named p) e in
    let gone : bytes_eq p m ≡ true → slot_at (fact_prefix ++ p) rest ≡ nowhere = λ so. ap (λ x. slot_at x rest) (same_name (fact_prefix ++ p) n (is ∙ so)) ∙ before_unlisted n rest h in
    ap (over (slot_at (fact_prefix ++ p) rest)) (at_put p m a k done)
    ∙ turn_step (bytes_eq p m) a k (slot_at (fact_prefix ++ p) rest) (slot_at p done) gone
    ∙ ap (λ q. over (cond q (spot a k) (slot_at (fact_prefix ++ p) rest)) (slot_at p done)) (sym is)

ascend_named : (o : Option Name) (a : Bool) (k : KindData) (ss : Slots) → Ascend ss → Ascend (put_named o a k ss)
ascend_named None a k ss h = h
ascend_named (Some n) a k ss h = ascend_put n a k ss h

pub stripping_goes_on : (all rest done : Slots) (n : Name) (a : Bool) (k : KindData) → IsStripping all (slot n a k rest) done → IsStripping all rest (put_named (after_prefix fact_prefix n) a k done)
stripping_goes_on all rest done n a k h = record {
  order = h.order.1;
  rises = ascend_named (after_prefix fact_prefix n) a k done h.rises;
  at = λ p. turn_at p n (after_prefix fact_prefix n) a k rest done refl h.order.0 ∙ h.at p;
}

pub stripping_ends : (all done : Slots) → IsStripping all no_slots done → done ≡ stripped_slots all
stripping_ends all done h = same_slots done (stripped_slots all) h.rises (stripped_slots-ascend all) (λ p. h.at p ∙ sym (stripped_slots-at p all))
