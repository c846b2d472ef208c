-- Truth values.
use Rattle.std.proofs.Common.{◌≡◌, Bool, true, false, not, ◌&&◌, ◌||◌, ◌⊎◌, inl, inr, refl, sym, true≢false}

pub untrue : {A : Type 0} → false ≡ true → A
untrue h = absurd (true≢false (sym h))

pub and-left : (a b : Bool) → a && b ≡ true → a ≡ true
and-left true b h = refl
and-left false b h = h

pub and-right : (a b : Bool) → a && b ≡ true → b ≡ true
and-right true b h = h
and-right false b h = untrue h

pub and-both : (a b : Bool) → a ≡ true → b ≡ true → a && b ≡ true
and-both true b x y = y
and-both false b x y = x

pub or-left : (a b : Bool) → a ≡ true → a || b ≡ true
or-left true b h = refl
or-left false b h = untrue h

pub or-right : (a b : Bool) → b ≡ true → a || b ≡ true
or-right true b h = refl
or-right false b h = h

pub or-cases : (a b : Bool) → a || b ≡ true → (a ≡ true) ⊎ (b ≡ true)
or-cases true b h = inl refl
or-cases false b h = inr h

pub neither-left : (a b : Bool) → a || b ≡ false → a ≡ false
neither-left true b h = h
neither-left false b h = refl

pub neither-right : (a b : Bool) → a || b ≡ false → b ≡ false
neither-right true b h = untrue (sym h)
neither-right false b h = h

pub neither-both : (a b : Bool) → a ≡ false → b ≡ false → a || b ≡ false
neither-both true b h i = h
neither-both false b h i = i

pub not-true : (a : Bool) → not a ≡ true → a ≡ false
not-true true h = untrue h
not-true false h = refl

pub true-false : {A : Type 0} (a : Bool) → a ≡ true → a ≡ false → A
true-false true h i = absurd (true≢false i)
true-false false h i = untrue h

-- certain in the second, so certain in the first
pub weak_presence : (a b : Bool) → a || not b ≡ true → not a ≡ true → not b ≡ true
weak_presence true b h i = untrue i
weak_presence false b h i = h

pub presence_through : (a b c : Bool) → a || not b ≡ true → b || not c ≡ true → a || not c ≡ true
presence_through true b c h i = refl
presence_through false true c h i = untrue h
presence_through false false c h i = i

pub own_presence : (a : Bool) → a || not a ≡ true
own_presence true = refl
own_presence false = refl

pub same_tests : (a b : Bool) → (a ≡ true → b ≡ true) → (b ≡ true → a ≡ true) → a ≡ b
same_tests true b f g = sym (f refl)
same_tests false true f g = g refl
same_tests false false f g = refl
