-- A plan is its row, as the tree of ways.
use Rattle.std.proofs.Common.{◌≡◌, ◌≤◌, ◌<◌, ℕ, suc, ◌+◌, List, [], ◌∷◌, ◌++◌, Bool, true, false, nat_lt, cond, Option, Some, None, length, refl, sym, ap, ap₂, ◌∙◌, append_assoc, append-nil, subst, arith}
use Rattle.std.proofs.lemmas.Bool.{ltb-true, ltb-false}
use Rattle.pb_language.specs.Task.{Task, Handlers, no_handlers, handler, Row, end, task, flush, section, block}
use Rattle.pb_language.specs.Links.{handler_places, size}
use Rattle.pb_language.specs.Rest.{Rest, left, next, ask, rescue, hold, release, flush_rest, rest_of}
use Rattle.pb_machine.specs.Steps.{holding, releasing, Target, Step, leaving, moving, flush_target, row_target, flush_steps, saved_target, row_steps, end_target, play_steps, play_begin}
use Rattle.pb_machine.specs.Hosts.{FlatHost, arrival}
use Rattle.pb_machine.specs.Ways.{moved_rest, step_rest, rest_along, rest_to, step_along, step_at}
use Rattle.pb_machine.specs.Laws.{AreHigher, IsHigher, PlanIsRow, NodesAreSteps}
use Rattle.pb_machine.proofs.Tests.{less, not_less, Beyond, beyond_more}
use Rattle.pb_machine.proofs.Targets.{flush_length, row_length, flush_beyond, row_beyond, saved_beyond}
use Rattle.pb_machine.proofs.Leads.{beyond, play_higher}

-- the ways on where a target leads, along the steps from node o on
abbrev pub ways : List Step → ℕ → Target → Rest
ways ss o t = moved_rest t.moves (rest_along ss o t.to)

pub none_along : (ss : List Step) (o : ℕ) → rest_along ss o None ≡ left
none_along ss o = refl

-- steps before a target are passed
pub later : (s : Step) (ss : List Step) (o last : ℕ) (to : Option ℕ) → Beyond (suc o) last to
    → rest_along (s ∷ ss) o to ≡ rest_along ss (suc o) to
later s ss o last None w = refl
later s ss o last (Some n) w = rw (less o n w.0) refl

along : (xs ys : List Step) (o k last : ℕ) (to : Option ℕ) → o + length xs ≡ k → Beyond k last to
    → rest_along (xs ++ ys) o to ≡ rest_along ys k to
along [] ys o k last to e w = let f : o ≡ k = omega arith in ap (λ i. rest_along ys i to) f
along (x ∷ xs) ys o k last to e w =
    later x (xs ++ ys) o last to (beyond_more k (suc o) last to (omega arith) w)
    ∙ along xs ys (suc o) k last to (omega arith) w

skip : (xs ys : List Step) (o k last : ℕ) (t : Target) → o + length xs ≡ k → Beyond k last t.to
    → ways (xs ++ ys) o t ≡ ways ys k t
skip xs ys o k last t e w = ap (moved_rest t.moves) (along xs ys o k last t.to e w)

here : (t : Task) (h : Option ℕ) (a b : Target) (ss : List Step) (o : ℕ)
    → rest_along (record { task = t; handler = h; ok = a; failed = b } ∷ ss) o (Some o) ≡ step_rest h t (ways ss (suc o) a) (ways ss (suc o) b)
here t h a b ss o = rw (not_less o o (omega arith)) refl

flush_ways : (hs : Handlers) (o k last : ℕ) (after : Target) (ys : List Step)
    → o + handler_places hs ≡ k → k ≤ last → Beyond k last after.to
    → ways (flush_steps hs o after ++ ys) o (flush_target hs o after) ≡ flush_rest hs (ways ys k after)
flush_ways no_handlers o k last after ys e le w = let f : o ≡ k = omega arith in ap (λ i. ways ys i after) f
flush_ways (handler n t hs) o k last after ys e le w =
    here t (Some n) (flush_target hs (suc o) after) leaving (flush_steps hs (suc o) after ++ ys) o
    ∙ ap (λ r. ask n (next t r left) r) (flush_ways hs (suc o) k last after ys (omega arith) le w)

saved_ways : (d : ℕ) (saves : Bool) (x y : Target) (ss : List Step) (o : ℕ) (inside : Rest) (outside : Rest)
    → ways ss o x ≡ inside → ways ss o y ≡ outside
    → ways ss o (saved_target d saves x y) ≡ cond saves (rescue d inside) outside
saved_ways d true x y ss o inside outside h i = ap (rescue d) h
saved_ways d false x y ss o inside outside h i = i

three : (a b c d e : List Step) → (a ++ (b ++ (c ++ d))) ++ e ≡ a ++ (b ++ (c ++ (d ++ e)))
three a b c d e = simp append_assoc

four : (a b c d e f : List Step)
    → (a ++ (b ++ (c ++ (d ++ e)))) ++ f ≡ a ++ (b ++ (c ++ (d ++ (e ++ f))))
four a b c d e f = simp append_assoc

pub row_ways : (row : Row) (m o k last : ℕ) (well hurt : Target) (ys : List Step) → o + size row ≡ k
    → k ≤ last → Beyond k last well.to → Beyond k last hurt.to
    → ways (row_steps row m o well hurt ++ ys) o (row_target row o well) ≡ rest_of row m (ways ys k well) (ways ys k hurt)
row_ways end m o k last well hurt ys e le v w = let f : o ≡ k = omega arith in ap (λ i. ways ys i well) f
row_ways (task t row) m o k last well hurt ys e le v w =
    let rest = row_steps row m (suc o) well hurt in
    here t None (row_target row (suc o) well) hurt (rest ++ ys) o
    ∙ ap₂ (next t) (row_ways row m (suc o) k last well hurt ys (omega arith) le v w)
    (skip rest ys (suc o) k last hurt (omega (arith, row_length row m (suc o) well hurt)) w)
row_ways (flush hs row) m o k last well hurt ys e le v w =
    let n = o + handler_places hs in
    let next = row_target row n well in
    let rest = row_steps row m n well hurt in
    ap (λ ss. ways ss o (flush_target hs o next)) (append_assoc (flush_steps hs o next) rest ys)
    ∙ flush_ways hs o n last next (rest ++ ys) refl (omega arith) (row_beyond row n k last well (omega arith) le v)
    ∙ ap (flush_rest hs) (row_ways row m n k last well hurt ys (omega arith) le v w)
row_ways (section body hs row) m o k last well hurt ys e le v w =
    let a = o + size body in
    let f = a + handler_places hs in
    let n = f + handler_places hs in
    let next = row_target row n well in
    let on = flush_target hs a next in
    let fails = flush_target hs f leaving in
    let rest = row_steps row m n well hurt in
    let one = flush_steps hs a next in
    let other = flush_steps hs f leaving in
    let in_body = row_steps body m o on fails in
    let at_next : Beyond n last next.to = row_beyond row n k last well (omega arith) le v in
    let next_f : Beyond f last next.to = beyond_more n f last next.to (omega arith) at_next in
    let at_fails : Beyond f last fails.to = flush_beyond hs f n last leaving refl (omega arith) tt in
    let row_is : ways (rest ++ ys) n next ≡ rest_of row m (ways ys k well) (ways ys k hurt) = row_ways row m n k last well hurt ys (omega arith) le v w in
    ap (λ ss. ways ss o (row_target body o on)) (three in_body one other rest ys)
    ∙ row_ways body m o a last on fails (one ++ (other ++ (rest ++ ys))) refl (omega arith) (flush_beyond hs a f last next refl (omega arith) next_f) (beyond_more f a last fails.to (omega arith) at_fails)
    ∙ ap₂ (rest_of body m)
    (flush_ways hs a f last next (other ++ (rest ++ ys)) refl (omega arith) next_f
    ∙ ap (flush_rest hs) (skip other (rest ++ ys) f n last next (ap (λ i. f + i) (flush_length hs f leaving)) at_next ∙ row_is))
    (skip one (other ++ (rest ++ ys)) a f last fails (ap (λ i. a + i) (flush_length hs a next)) at_fails
    ∙ flush_ways hs f n last leaving (rest ++ ys) refl (omega arith) tt)
row_ways (block d body saves rescued always row) m o k last well hurt ys e le v w =
    let r = o + size body in
    let a = r + size rescued in
    let f = a + size always in
    let n = f + size always in
    let next = row_target row n well in
    let out = moving (releasing m) hurt in
    let on = row_target always a next in
    let fails = moving (holding m) (row_target always f out) in
    let in_rescue = row_target rescued r on in
    let saved = saved_target d saves in_rescue fails in
    let rest = row_steps row m n well hurt in
    let g = row_steps always (suc m) f out hurt in
    let y = row_steps always m a next hurt in
    let s = row_steps rescued m r on fails in
    let in_body = row_steps body m o on saved in
    let row_length_is : n + length rest ≡ k = omega (arith, row_length row m n well hurt) in
    let g_length : f + length g ≡ n = ap (λ i. f + i) (row_length always (suc m) f out hurt) in
    let y_length : a + length y ≡ f = ap (λ i. a + i) (row_length always m a next hurt) in
    let s_length : r + length s ≡ a = ap (λ i. r + i) (row_length rescued m r on fails) in
    let at_next : Beyond n last next.to = row_beyond row n k last well (omega arith) le v in
    let next_f : Beyond f last next.to = beyond_more n f last next.to (omega arith) at_next in
    let at_hurt : Beyond n last hurt.to = beyond_more k n last hurt.to (omega arith) w in
    let hurt_f : Beyond f last hurt.to = beyond_more n f last hurt.to (omega arith) at_hurt in
    let at_on : Beyond a last on.to = row_beyond always a f last next refl (omega arith) next_f in
    let at_fails : Beyond f last fails.to = row_beyond always f n last out refl (omega arith) at_hurt in
    let fails_a : Beyond a last fails.to = beyond_more f a last fails.to (omega arith) at_fails in
    let at_saved : Beyond r last saved.to = saved_beyond d saves r last in_rescue fails (row_beyond rescued r a last on refl (omega arith) at_on) (beyond_more a r last fails.to (omega arith) fails_a) in
    let u = g ++ (rest ++ ys) in
    let row_is : ways (rest ++ ys) n next ≡ rest_of row m (ways ys k well) (ways ys k hurt) = row_ways row m n k last well hurt ys (omega arith) le v w in
    let hurt_n : ways (rest ++ ys) n hurt ≡ ways ys k hurt = skip rest ys n k last hurt row_length_is w in
    let hurt_is : ways u f hurt ≡ ways ys k hurt = skip g (rest ++ ys) f n last hurt g_length at_hurt ∙ hurt_n in
    let on_is : ways (y ++ u) a on ≡ rest_of always m (rest_of row m (ways ys k well) (ways ys k hurt)) (ways ys k hurt) =
    row_ways always m a f last next hurt u refl (omega arith) next_f hurt_f
    ∙ ap₂ (rest_of always m) (skip g (rest ++ ys) f n last next g_length at_next ∙ row_is) hurt_is in
    let fails_f : ways u f fails ≡ hold m (rest_of always (suc m) (release m (ways ys k hurt)) (ways ys k hurt)) =
    ap (hold m) (row_ways always (suc m) f n last out hurt (rest ++ ys) refl (omega arith) at_hurt at_hurt
    ∙ ap₂ (rest_of always (suc m)) (ap (release m) hurt_n) hurt_n) in
    let fails_is : ways (y ++ u) a fails ≡ hold m (rest_of always (suc m) (release m (ways ys k hurt)) (ways ys k hurt)) =
    skip y u a f last fails y_length at_fails ∙ fails_f in
    let rescue_is : ways (s ++ (y ++ u)) r in_rescue ≡ rest_of rescued m (ways (y ++ u) a on) (ways (y ++ u) a fails) =
    row_ways rescued m r a last on fails (y ++ u) refl (omega arith) at_on fails_a in
    ap (λ ss. ways ss o (row_target body o on)) (four in_body s y g rest ys)
    ∙ row_ways body m o r last on saved (s ++ (y ++ u)) refl (omega arith) (beyond_more a r last on.to (omega arith) at_on) at_saved
    ∙ ap₂ (rest_of body m) (skip s (y ++ u) r a last on s_length at_on ∙ on_is)
    (saved_ways d saves in_rescue fails (s ++ (y ++ u)) r _ _ (rescue_is ∙ ap₂ (rest_of rescued m) on_is fails_is) (skip s (y ++ u) r a last fails s_length fails_a ∙ fails_is))

pub plan_is_row : PlanIsRow
plan_is_row row =
    let last = suc (size row) in
    ap (λ ss. ways ss 1 (play_begin row)) (sym (append-nil (play_steps row)))
    ∙ row_ways row 0 1 last last (end_target row) leaving [] (omega arith) (omega arith) (omega arith, omega arith) tt

-- the steps of a plan from node o on
pub record Lies (ss rest : List Step) (o : ℕ) : Type 0 where
  pub rests : (n : ℕ) → o ≤ n → rest_along ss 1 (Some n) ≡ rest_along rest o (Some n)
  pub steps : (n : ℕ) → o ≤ n → step_at ss n ≡ step_along rest o n
  pub arrivals : (n : ℕ) (h : FlatHost) → o ≤ n
      → arrival ss 1 (Some n) h ≡ arrival rest o (Some n) h

pub lies_all : (ss : List Step) → Lies ss ss 1
lies_all ss = record { rests = λ n i. refl; steps = λ n i. refl; arrivals = λ n h i. refl }

pub lies_on : (ss : List Step) (s : Step) (rest : List Step) (o : ℕ) → Lies ss (s ∷ rest) o
    → Lies ss rest (suc o)
lies_on ss s rest o l = record {
  rests = λ n h. l.rests n (omega arith) ∙ (rw (less o n h) refl);
  steps = λ n h. l.steps n (omega arith) ∙ (rw (less o n h) refl);
  arrivals = λ n h i. l.arrivals n h (omega arith) ∙ (rw (less o n i) refl);
}

lies_to : (ss rest : List Step) (o last : ℕ) (to : Option ℕ) → Lies ss rest o → Beyond o last to
    → rest_along rest o to ≡ rest_along ss 1 to
lies_to ss rest o last None l w = refl
lies_to ss rest o last (Some n) l w = sym (l.rests n w.0)

-- from a step the ways on are those where the plan leads
pub lies_ways : (ss rest : List Step) (o last : ℕ) (t : Target) → Lies ss rest (suc o)
    → IsHigher last o t.to → ways rest (suc o) t ≡ rest_to ss t
lies_ways ss rest o last t l h = ap (moved_rest t.moves) (lies_to ss rest (suc o) last t.to l (beyond o last t.to h))

pub step_here : (s : Step) (rest : List Step) (o : ℕ) → step_along (s ∷ rest) o o ≡ s
step_here s rest o = rw (not_less o o (omega arith)) refl

node_here : (ss : List Step) (s : Step) (rest : List Step) (o last : ℕ) → Lies ss (s ∷ rest) o
    → AreHigher last o (s ∷ rest)
    → rest_along ss 1 (Some o) ≡ step_rest s.handler s.task (rest_to ss s.ok) (rest_to ss s.failed)
node_here ss s rest o last l h =
    l.rests o (omega arith) ∙ here s.task s.handler s.ok s.failed rest o
    ∙ ap₂ (step_rest s.handler s.task) (lies_ways ss rest o last s.ok (lies_on ss s rest o l) h.0) (lies_ways ss rest o last s.failed (lies_on ss s rest o l) h.1)

abbrev NodeIsStep : List Step → ℕ → Type 0
NodeIsStep ss n = rest_along ss 1 (Some n) ≡ step_rest (step_at ss n).handler (step_at ss n).task (rest_to ss (step_at ss n).ok) (rest_to ss (step_at ss n).failed)

nodes : (ss rest : List Step) (o last n : ℕ) → Lies ss rest o → AreHigher last o rest → o ≤ n
    → n < o + length rest
    → NodeIsStep ss n
nodes ss [] o last n l h i j = absurd (omega arith)
nodes ss (s ∷ rest) o last n l h i j = by_test (λ k. nodes ss rest (suc o) last n (lies_on ss s rest o l) h.2 k (omega arith)) (nat_lt o n) refl where
  by_test : (o < n → NodeIsStep ss n) → (q : Bool) → nat_lt o n ≡ q → NodeIsStep ss n
  by_test on true e = on (ltb-true o n e)
  by_test on false e =
      let same : o ≡ n = omega (arith, ltb-false o n e) in
      let at_step : step_at ss o ≡ s = l.steps o (omega arith) ∙ step_here s rest o in
      subst (NodeIsStep ss) same
      (node_here ss s rest o last l h ∙ ap (λ x. step_rest x.handler x.task (rest_to ss x.ok) (rest_to ss x.failed)) (sym at_step))

pub nodes_are_steps : NodesAreSteps
nodes_are_steps row n h i =
    let ss = play_steps row in
    nodes ss ss 1 (suc (size row)) n (lies_all ss) (play_higher row) h (omega (arith, row_length row 0 1 (end_target row) leaving))
