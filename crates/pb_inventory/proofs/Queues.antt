-- Counts that are raised and lowered by some children, and the queue of the nodes at 0.
use Rattle.std.proofs.Common.{◌≡◌, ℕ, ◌+◌, ◌-◌, ◌*◌, ◌^◌, ◌<◌, ◌≤◌, List, [], ◌∷◌, ◌++◌, length, get_or, set, take, cond, eqb, refl, sym, ap, ◌∙◌, subst, inl, inr, arith, length-take}
use Rattle.std.proofs.lemmas.Bool.{cases_eq, cases_lt, eq-eqb, ne_eqb}
use Rattle.std.proofs.lemmas.Grind.{common_steps}
use Rattle.std.proofs.lemmas.List.{get_or-set_other, get_or-set_same, get_or_append_left, get_or_past, get_or_push, length-take-le, length_push, take-take, take_more}
use Rattle.std.proofs.lemmas.List.Sums.{count_by-le-length, count_by_more_no, count_by_more_yes, sum_by-take-le, sum_by_more}
use Rattle.std.specs.List.{sum_by}
use Rattle.pb_inventory.specs.Orders.{IsQueue, times}

-- the counts and the queue after some of the children
pub record IsLowered (counts before children : List ℕ) (i : ℕ) (now after : List ℕ) : Type 0 where
  pub lowered : (c : ℕ) → c < length counts → get_or now c 0 + times c (take i children) ≡ get_or counts c 0
  pub queue : IsQueue now after
  pub kept : take (length before) after ≡ before

-- one more count, whose node joins the queue where it is 0
pub queue-push : (ns queue : List ℕ) → IsQueue ns queue → IsQueue (ns ++ 0 ∷ []) (queue ++ length ns ∷ [])
queue-push ns queue q = record {
  within = λ j lt. grind (arith, common_steps, q.within j);
  ready = λ j lt. grind (arith, common_steps, q.within j, q.ready j);
  whole = λ c lt e. elim (cases_eq c (length ns)) [
    | inl same ↦ (length queue, (omega (arith, length_push queue (length ns))), get_or_push queue (length ns) 0 (length queue) refl ∙ sym same)
    | inr other ↦
        let inside : c < length ns = omega (arith, other, length_push ns 0, lt) in
        let p = q.whole c inside (sym (get_or_append_left ns (0 ∷ []) 0 c inside) ∙ e) in
        (p.0, (omega (arith, p.1, length_push queue (length ns))), get_or_append_left queue (length ns ∷ []) 0 p.0 p.1 ∙ p.2)
  ];
  once = λ j k lt lt' e. grind (arith, common_steps, q.once j k, q.within j, q.within k);
}

pub queue-pass : (ns queue : List ℕ) (m : ℕ) → (m ≡ 0 → ⊥) → IsQueue ns queue → IsQueue (ns ++ m ∷ []) queue
queue-pass ns queue m some q = record {
  within = λ j lt. grind (arith, common_steps, q.within j);
  ready = λ j lt. grind (arith, common_steps, q.within j, q.ready j);
  whole = λ c lt e. grind (arith, common_steps, q.whole c);
  once = q.once;
}

-- the count of the next child is not yet 0
pub lowered-positive : (counts before ds : List ℕ) (i : ℕ) (now after : List ℕ) → IsLowered counts before ds i now after → i < length ds → get_or ds i 0 < length counts
    → times (get_or ds i 0) ds ≤ get_or counts (get_or ds i 0) 0 → 0 < get_or now (get_or ds i 0) 0
lowered-positive counts before ds i now after l lt node enough =
    let x = get_or ds i 0 in
    omega (arith, enough, l.lowered x node, count_by_more_yes (eqb x) ds i 0 lt (eq-eqb x x refl), sum_by-take-le (λ y. cond (eqb x y) 1 0) ds (i + 1))

pub lowered-more : (counts before ds : List ℕ) (i : ℕ) (now after now' after' : List ℕ) → IsLowered counts before ds i now after → i < length ds → get_or ds i 0 < length counts
    → length now ≡ length counts → 0 < get_or now (get_or ds i 0) 0 → now' ≡ set now (get_or ds i 0) (get_or now (get_or ds i 0) 0 - 1) → IsQueue now' after' → take (length after) after' ≡ after
    → IsLowered counts before ds (i + 1) now' after'
lowered-more counts before ds i now after now' after' l lt node same some e q kept = record {
  lowered = λ c inside. elim (cases_eq c (get_or ds i 0)) [
    | inl here ↦
        let new = ap (λ ns. get_or ns c 0) e ∙ ap (λ y. get_or (set now y (get_or now y 0 - 1)) c 0) (sym here) ∙ get_or-set_same now c (get_or now c 0 - 1) 0 (omega (arith, inside, same)) in
        let positive : 0 < get_or now c 0 = subst (λ y. 0 < get_or now y 0) (sym here) some in
        omega (arith, new, positive, l.lowered c inside, count_by_more_yes (eqb c) ds i 0 lt (eq-eqb c (get_or ds i 0) here))
    | inr other ↦
        let old = ap (λ ns. get_or ns c 0) e ∙ get_or-set_other now (get_or ds i 0) c (get_or now (get_or ds i 0) 0 - 1) 0 other in
        omega (arith, old, l.lowered c inside, count_by_more_no (eqb c) ds i 0 lt (ne_eqb c (get_or ds i 0) other))
  ];
  queue = q;
  kept =
      let within : length before ≤ length after = omega (arith, ap length l.kept, length-take (length before) after) in
      sym (take-take (length before) (length after) after' within) ∙ ap (take (length before)) kept ∙ l.kept;
}

pub queue-zero : (ns queue queue' : List ℕ) (i : ℕ) → i < length ns → get_or ns i 0 ≡ 0 → queue' ≡ queue ++ i ∷ [] → IsQueue (take i ns) queue → IsQueue (take (i + 1) ns) queue'
queue-zero ns queue queue' i lt zero e q =
    let more = take_more ns i 0 lt ∙ ap (λ y. take i ns ++ y ∷ []) zero in
    let pushed = ap (λ k. queue ++ k ∷ []) (length-take-le i ns (omega (arith, lt))) ∙ sym e in
    subst (λ ms. IsQueue ms queue') (sym more) (subst (λ ks. IsQueue (take i ns ++ 0 ∷ []) ks) pushed (queue-push (take i ns) queue q))

pub queue-other : (ns queue queue' : List ℕ) (i : ℕ) → i < length ns → (get_or ns i 0 ≡ 0 → ⊥) → queue' ≡ queue → IsQueue (take i ns) queue → IsQueue (take (i + 1) ns) queue'
queue-other ns queue queue' i lt some e q =
    subst (λ ms. IsQueue ms queue') (sym (take_more ns i 0 lt)) (subst (λ ks. IsQueue (take i ns ++ get_or ns i 0 ∷ []) ks) (sym e) (queue-pass (take i ns) queue (get_or ns i 0) some q))

-- one more list of children, of fewer than 2 ^ 64
pub counted-more : (cs : List (List ℕ)) (old new ds : List ℕ) (i : ℕ) → i < length cs → length old ≡ length cs → length new ≡ length cs → get_or cs i [] ≡ ds → length ds < 2 ^ 64
    → ((c : ℕ) → c < length cs → get_or old c 0 ≡ sum_by (times c) (take i cs)) → ((c : ℕ) → get_or old c 0 ≤ i * 2 ^ 64)
    → ((c : ℕ) → c < length old → get_or new c 0 ≡ get_or old c 0 + times c ds)
    → ((c : ℕ) → c < length cs → get_or new c 0 ≡ sum_by (times c) (take (i + 1) cs)) × ((c : ℕ) → get_or new c 0 ≤ (i + 1) * 2 ^ 64)
counted-more cs old new ds i lt before after here few counted bound raised =
    let same : (c : ℕ) → c < length cs → get_or new c 0 ≡ sum_by (times c) (take (i + 1) cs) = λ c h. omega (arith, counted c h, raised c (omega (arith, h, before)), sum_by_more (times c) cs i [] lt, ap (times c) here) in (
      same,
      λ c. elim (cases_lt c (length cs)) [
        | inl inside ↦ omega (arith, bound c, raised c (omega (arith, inside, before)), few, count_by-le-length (eqb c) ds)
        | inr past ↦ omega (arith, get_or_past new c 0 (omega (arith, past, after)))
      ],
    )
