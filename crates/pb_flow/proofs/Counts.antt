-- How many nodes and places steps have, step by step.
use Rattle.std.proofs.Common.{◌≡◌, ◌∙◌, ℕ, zero, suc, ◌+◌, ◌<◌, ◌≤◌, ◌==◌, List, [], ◌∷◌, drop, get_or, length, true, false, not, min, refl, sym, ap, subst, arith, rules, tests}
use Rattle.std.proofs.lemmas.List.{drop_more, drop_all}
use Rattle.pb_language.specs.Book.{Steps, no_steps, task_step, block_step, flush_step}
use Rattle.pb_language.specs.BookForm.{Before}
use Rattle.pb_language.specs.Plays.{is_given, places_in}
use Rattle.pb_language.specs.Sites.{steps_in}
use Rattle.pb_flow.proofs.Sizes.{twice}
use Rattle.pb_play.specs.Plays.{head_view, step_layer, step_view, steps_view}
use Rattle.pb_play.specs.declared.play.Block.{Block}
use Rattle.pb_play.specs.declared.play.Step as Step-of
use Rattle.pb_play.specs.declared.play.Step.{Step, fold_out-Step, map-Step, out-Step, the_lemmas as step_lemmas}
use Rattle.pb_play.specs.declared.play.Step.TheOpen.{Step-F}

-- a step is a task, a block or a flush, with the steps inside already seen
pub seen : (s : Step) → step_view s ≡ step_layer (map-Step Step Before step_view (out-Step s))
seen s = fold_out-Step Before step_layer s

-- what is so of each layer is so of each step
pub of-layer : (P : Before → Type 0) → ((l : Step-F Before) → P (step_layer l)) → (s : Step) → P (step_view s)
of-layer P h s = subst P (sym (seen s)) (h (map-Step Step Before step_view (out-Step s)))

-- what is left of a list of steps, at its next step
pub left : (ss : List Step) (i : ℕ) (s : Step) → i < length ss → s ≡ get_or ss i s → steps_view (drop i ss) ≡ step_view s (steps_view (drop (i + 1) ss))
left ss i s lt e = ap steps_view (drop_more ss i s lt) ∙ ap (λ x. step_view x (steps_view (drop (i + 1) ss))) (sym e)

-- what is left at the end
pub none-left : (ss : List Step) (i : ℕ) → length ss ≤ i → steps_view (drop i ss) ≡ no_steps
none-left ss i h = ap steps_view (drop_all i ss h)

-- steps in front are counted too
pub front-count : (n k : ℕ) (s : Step) (ss : Steps) → steps_in n k (step_view s ss) ≡ steps_in n k (step_view s no_steps) + steps_in n k ss
front-count n k s ss = of-layer (λ f. steps_in n k (f ss) ≡ steps_in n k (f no_steps) + steps_in n k ss) at s where
  at : (l : Step-F Before) → steps_in n k (step_layer l ss) ≡ steps_in n k (step_layer l no_steps) + steps_in n k ss
  at (Step-F.Task t) = omega arith
  at (Step-F.Block b) = omega arith
  at (Step-F.Flush l) = omega arith

-- a block before others
pub view-block : (b : Block Step) (ss : Steps) → step_view (Step-of.Block b) ss ≡ block_step (head_view b.head) (steps_view b.body.items) (steps_view b.rescue.items) (steps_view b.always.items) ss
view-block b ss = search (rules, step_lemmas)

-- the last part of a block counts twice
pub block-count : (n : ℕ) (b : Block Step) → steps_in n 0 (steps_view b.body.items) + (steps_in n 0 (steps_view b.rescue.items) + (steps_in n 0 (steps_view b.always.items) + steps_in n 0 (steps_view b.always.items) + 0))
    ≡ steps_in n 0 (step_view (Step-of.Block b) no_steps)
block-count n b =
    let e = twice n 0 (steps_view b.always.items) in
    sym (ap (λ x. steps_in n 0 x) (view-block b no_steps) ∙ omega arith)

-- steps are given where there is one
pub step-given : (s : Step) (ss : Steps) → is_given (step_view s ss) ≡ true
step-given s ss = of-layer (λ f. is_given (f ss) ≡ true) at s where
  at : (l : Step-F Before) → is_given (step_layer l ss) ≡ true
  at (Step-F.Task t) = refl
  at (Step-F.Block b) = refl
  at (Step-F.Flush l) = refl

pub steps-given : (ss : List Step) → not (length ss == 0) ≡ is_given (steps_view ss)
steps-given [] = refl
steps-given (s ∷ ss) = ap not (at (length ss)) ∙ sym (step-given s (steps_view ss)) where
  at : (n : ℕ) → (suc n == 0) ≡ false
  at n = search (rules, tests)

-- places in front are counted too
pub front-places : (n : ℕ) (s : Step) (ss : Steps) → places_in n (step_view s ss) ≡ places_in n (step_view s no_steps) + places_in n ss
front-places n s ss = of-layer (λ f. places_in n (f ss) ≡ places_in n (f no_steps) + places_in n ss) at s where
  at : (l : Step-F Before) → places_in n (step_layer l ss) ≡ places_in n (step_layer l no_steps) + places_in n ss
  at (Step-F.Task t) = omega arith
  at (Step-F.Block b) = omega arith
  at (Step-F.Flush l) = omega arith

-- what is counted step by step
abbrev pub IsSum : (Steps → ℕ) → Type 0
IsSum f = (s : Step) (ss : Steps) → f (step_view s ss) ≡ f (step_view s no_steps) + f ss

pub sum-left : (f : Steps → ℕ) → IsSum f → (ss : List Step) (i j : ℕ) (s : Step) → j ≡ i + 1 → i < length ss → s ≡ get_or ss i s → f (steps_view (drop i ss)) ≡ f (step_view s no_steps) + f (steps_view (drop j ss))
sum-left f a ss i j s e lt g = ap f (left ss i s lt g) ∙ a s (steps_view (drop (i + 1) ss)) ∙ ap (λ k. f (step_view s no_steps) + f (steps_view (drop k ss))) (sym e)

pub less-left : (f : Steps → ℕ) → IsSum f → (ss : List Step) (i : ℕ) → f (steps_view (drop i ss)) ≤ f (steps_view ss)
less-left f a ss zero = omega arith
less-left f a [] (suc i) = omega arith
less-left f a (s ∷ ss) (suc i) = omega (arith, less-left f a ss i, a s (steps_view ss))

pub steps-sum : (n : ℕ) → IsSum (steps_in n 0)
steps-sum n s ss = front-count n 0 s ss

pub places-sum : (n : ℕ) → IsSum (places_in n)
places-sum n s ss = front-places n s ss

-- how many tasks, blocks and flushes there are
abbrev pub weight : Steps → ℕ
weight no_steps = 0
weight (task_step t ss) = suc (weight ss)
weight (flush_step l ss) = suc (weight ss)
weight (block_step b x y z ss) = suc (weight x + (weight y + (weight z + weight ss)))

pub weight-sum : IsSum weight
weight-sum s ss = of-layer (λ f. weight (f ss) ≡ weight (f no_steps) + weight ss) at s where
  at : (l : Step-F Before) → weight (step_layer l ss) ≡ weight (step_layer l no_steps) + weight ss
  at (Step-F.Task t) = omega arith
  at (Step-F.Block b) = omega arith
  at (Step-F.Flush l) = omega arith

-- so much was counted up to there
pub record IsCounted (f : Steps → ℕ) (ss : List Step) (i count : ℕ) : Type 0 where
  pub left : min 8193 (count + f (steps_view (drop i ss))) ≡ min 8193 (f (steps_view ss))
  pub few : count ≤ 8193

turn : (sum more now rest all next count : ℕ) → min 8193 (sum + all) ≡ next → all ≡ now + rest → count ≡ min 8193 now → more ≡ min 8193 (sum + count) → min 8193 (more + rest) ≡ next
turn sum more now rest all next count a b c d = omega arith

at-end : (sum rest all : ℕ) → sum ≤ 8193 → min 8193 (sum + rest) ≡ min 8193 all → rest ≡ 0 → sum ≡ min 8193 all
at-end sum rest all a b c = omega arith

pub counted-more : (f : Steps → ℕ) → IsSum f → (ss : List Step) (i : ℕ) (s : Step) (sum count more : ℕ) → IsCounted f ss i sum → i < length ss → s ≡ get_or ss i s → count ≡ min 8193 (f (step_view s no_steps)) → more ≡ min 8193 (sum + count)
    → IsCounted f ss (i + 1) more
counted-more f a ss i s sum count more h lt e c m = record {
  left = turn sum more (f (step_view s no_steps)) (f (steps_view (drop (i + 1) ss))) (f (steps_view (drop i ss))) _ count h.left (sum-left f a ss i (i + 1) s refl lt e) c m;
  few = omega arith;
}

pub counted-all : (f : Steps → ℕ) → f no_steps ≡ 0 → (ss : List Step) (i sum : ℕ) → IsCounted f ss i sum → length ss ≤ i → sum ≡ min 8193 (f (steps_view ss))
counted-all f z ss i sum h past = at-end sum (f (steps_view (drop i ss))) (f (steps_view ss)) h.few h.left (ap f (none-left ss i past) ∙ z)

-- the parts of a block, the last of them in two modes
pub parts-twice : (x y z bx by bz inner outer all : ℕ) → bx ≡ min 8193 x → by ≡ min 8193 y → bz ≡ min 8193 z → inner ≡ min 8193 (bz + bz) → outer ≡ min 8193 (by + inner) → all ≡ min 8193 (bx + outer)
    → all ≡ min 8193 (x + (y + (z + z + 0)))
parts-twice x y z bx by bz inner outer all a b c d e f = omega arith

pub parts-once : (x y z bx by bz outer all : ℕ) → bx ≡ min 8193 x → by ≡ min 8193 y → bz ≡ min 8193 z → outer ≡ min 8193 (by + bz) → all ≡ min 8193 (bx + outer) → all ≡ min 8193 (x + (y + (z + 0)))
parts-once x y z bx by bz outer all a b c e f = omega arith
