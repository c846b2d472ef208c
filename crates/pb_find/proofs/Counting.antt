-- The calls of a play's places, node by node.
use Rattle.std.proofs.Common.{◌≡◌, ℕ, suc, ◌+◌, nat_eq, cond, List, ◌∷◌, ◌++◌, length, take, drop, true, false, sym, ap, ◌∙◌, arith}
use Rattle.std.proofs.lemmas.List.{append-nil, drop_all, take_all}
use Rattle.pb_language.specs.Task.{Task}
use Rattle.pb_language.specs.Walk.{Visit}
use Rattle.pb_route.specs.Places.{calls_at, places_calls}

-- the first node of a place, and one that is no first
pub first_counted : (vs : List Visit) (t : Task) (ts : List Task) (place next here so_far whole : ℕ) → t.place ≡ place → nat_eq place next ≡ true → here ≡ calls_at vs t t.action
    → so_far + places_calls vs next (t ∷ ts) ≡ whole → (so_far + here) + places_calls vs (suc next) ts ≡ whole
first_counted vs t ts place next here so_far whole at is e h =
    let now : cond (nat_eq t.place next) (calls_at vs t t.action + places_calls vs (suc next) ts) (places_calls vs next ts) ≡ here + places_calls vs (suc next) ts =
    ap (λ q. cond q (calls_at vs t t.action + places_calls vs (suc next) ts) (places_calls vs next ts)) (ap (λ p. nat_eq p next) at ∙ is) ∙ ap (λ n. n + places_calls vs (suc next) ts) (sym e) in
    omega (arith, h, now)

pub other_counted : (vs : List Visit) (t : Task) (ts : List Task) (place next so_far whole : ℕ) → t.place ≡ place → nat_eq place next ≡ false → so_far + places_calls vs next (t ∷ ts) ≡ whole → so_far + places_calls vs next ts ≡ whole
other_counted vs t ts place next so_far whole at is h =
    ap (λ q. so_far + cond q (calls_at vs t t.action + places_calls vs (suc next) ts) (places_calls vs next ts)) (sym (ap (λ p. nat_eq p next) at ∙ is)) ∙ h

-- what is written through a borrow of all items
pub written_back : (new old : List ℕ) (n : ℕ) → length new ≡ length old → length old ≡ n → take n (new ++ drop (length new) old) ≡ new
written_back new old n same long =
    ap (λ xs. take n (new ++ xs)) (drop_all (length new) old (omega (arith, same))) ∙ ap (take n) (append-nil new) ∙ take_all n new (omega (arith, same, long))
