-- Where positions are in the book, and where they go on.
use Rattle.std.proofs.Common.{◌≡◌, ◌<◌, ◌≤◌, ℕ, zero, suc, ◌+◌, ◌-◌, List, [], ◌∷◌, length, map, get_or, true, nat_lt, nat_le, cond, All, Option, Some, None, refl, sym, ap, subst, ◌∙◌, arith}
use Rattle.std.proofs.lemmas.Bool.{ltb-true, lt-ltb}
use Rattle.std.proofs.lemmas.List.{length-map}
use Rattle.pb_semantics.proofs.Bools.{and-left, and-right, and-both}
use Rattle.pb_language.specs.Give.{Ended}
use Rattle.pb_machine.specs.Steps as flat
use Rattle.pb_machine.specs.Hosts.{FlatHost, FlatStage, stands, at}
use Rattle.pb_machine.specs.Ways.{no_step, step_along, step_at}
use Rattle.pb_machine.proofs.Tests.{less, not_less}
use Rattle.pb_flow.specs.Ahead.{is_ahead}
use Rattle.pb_flow.specs.declared.graph.Target.{Target}
use Rattle.pb_steps.specs.declared.step.Step.{Step}
use Rattle.pb_steps.specs.Words.{outline, outline_view, lead_on, leads_on, all_lead_on}
use Rattle.pb_position.specs.declared.position.Position.{Position}
use Rattle.pb_position.specs.declared.position.Location.{Location}
use Rattle.pb_position.specs.declared.position.Location.TheVariants.{End, Left, Node}
use Rattle.pb_position.specs.declared.position.TaskEnd.{TaskEnd}
use Rattle.pb_position.specs.Positions.{IsAt, location_view}
use Rattle.pb_position.specs.Calls.{AreKept, IsEndOf, GoesOn}
use Rattle.pb_core.specs.Hosts.{place_in, standing_at, gone_on, are_below}
use Rattle.pb_core.proofs.Hosts.{as_same}

outline_along : (ss : List flat.Step) (steps : List Step) (o n k : ℕ) (d : Step) → map outline ss ≡ map outline_view steps → n - o ≡ k → k < length steps → outline (step_along ss o n) ≡ outline_view (get_or steps k d)
outline_along [] [] o n k d e f h = absurd (omega arith)
outline_along [] (t ∷ ts) o n k d e f h = cc
outline_along (s ∷ ss) [] o n k d e f h = cc
outline_along (s ∷ ss) (t ∷ ts) o n zero d e f h =
    let first : outline s ≡ outline_view t = cc in
    ap (λ q. outline (cond q (step_along ss (suc o) n) s)) (not_less o n (omega arith)) ∙ first
outline_along (s ∷ ss) (t ∷ ts) o n (suc k) d e f h =
    let rest : map outline ss ≡ map outline_view ts = cc in
    ap (λ q. outline (cond q (step_along ss (suc o) n) s)) (less o n (omega arith)) ∙ outline_along ss ts (suc o) n k d rest (omega arith) (omega arith)

pub outline_at : (ss : List flat.Step) (steps : List Step) (n k : ℕ) (d : Step) → AreKept ss steps → k ≡ n - 1 → k < length steps → d ≡ get_or steps k d → outline (step_at ss n) ≡ outline_view d
outline_at ss steps n k d e f h g = outline_along ss steps 1 n k d e (sym f) h ∙ ap outline_view (sym g)

step_past : (ss : List flat.Step) (o n : ℕ) → length ss ≤ n - o → step_along ss o n ≡ no_step
step_past [] o n h = refl
step_past (s ∷ ss) o n h = ap (λ q. cond q (step_along ss (suc o) n) s) (less o n (omega arith)) ∙ step_past ss (suc o) n (omega arith)

pub as_many : (ss : List flat.Step) (steps : List Step) → AreKept ss steps → length ss ≡ length steps
as_many ss steps e = sym (length-map ss outline) ∙ ap length e ∙ length-map steps outline_view

pub place_of_node : (ss : List flat.Step) (steps : List Step) (n k : ℕ) (d : Step) (g : FlatStage) → AreKept ss steps → k ≡ n - 1 → k < length steps → d ≡ get_or steps k d → g ≡ stands (at n) → Some d.place ≡ place_in ss g
place_of_node ss steps n k d g e f h i is =
    sym (ap (place_in ss) is ∙ ap (λ x. Some x.place) (outline_at ss steps n k d e f h i))

pub place_past : (ss : List flat.Step) (steps : List Step) (n k : ℕ) (g : FlatStage) → AreKept ss steps → k ≡ n - 1 → length steps ≤ k → g ≡ stands (at n) → Some 0 ≡ place_in ss g
place_past ss steps n k g e f h is =
    let many = as_many ss steps e in
    sym (ap (place_in ss) is ∙ ap (λ s. Some s.task.place) (step_past ss 1 n (omega (arith, many, f, h))))

pub no_place : (ss : List flat.Step) (l : Location) (g : FlatStage) → ((n : ℕ) → l ≡ Node n → ⊥) → g ≡ stands (location_view l) → None ≡ place_in ss g
no_place ss End g h is = sym (ap (place_in ss) is)
no_place ss Left g h is = sym (ap (place_in ss) is)
no_place ss (Node n) g h is = absurd (h n refl)

-- at a node the code's position is at that node
pub same_node : (l : Location) (n m : ℕ) → stands (at n) ≡ stands (location_view l) → l ≡ Node m → n ≡ m
same_node l n m e f = let same : stands (at n) ≡ stands (at m) = e ∙ ap (λ x. stands (location_view x)) f in cc

pub at_no_node : (l : Location) (n : ℕ) → stands (at n) ≡ stands (location_view l) → ((m : ℕ) → l ≡ Node m → ⊥) → ⊥
at_no_node End n e h = cc
at_no_node Left n e h = cc
at_no_node (Node m) n e h = h m refl

-- the steps lead on
nearer : (m n last : ℕ) (to : Option ℕ) → m ≤ n → is_ahead n last to ≡ true → is_ahead m last to ≡ true
nearer m n last None h e = refl
nearer m n last (Some q) h e =
    let far : n < q = ltb-true n q (and-left (nat_lt n q) (nat_le q last) e) in
    and-both (nat_lt m q) (nat_le q last) (lt-ltb m q (omega arith)) (and-right (nat_lt n q) (nat_le q last) e)

leads_at : (last o k : ℕ) (ss : List Step) (d : Step) → lead_on last o ss ≡ true → k < length ss → leads_on last (o + k) (get_or ss k d) ≡ true
leads_at last o k [] d h i = absurd (omega arith)
leads_at last o zero (s ∷ ss) d h i =
    let same : o ≡ o + 0 = omega arith in
    subst (λ n. leads_on last n s ≡ true) same (and-left (leads_on last o s) (lead_on last (suc o) ss) h)
leads_at last o (suc k) (s ∷ ss) d h i =
    let same : suc o + k ≡ o + suc k = omega arith in
    subst (λ n. leads_on last n (get_or ss k d) ≡ true) same (leads_at last (suc o) k ss d (and-right (leads_on last o s) (lead_on last (suc o) ss) h) (omega arith))

pub step_leads : (ss : List Step) (k last : ℕ) (d : Step) → lead_on last 1 ss ≡ true → d ≡ get_or ss k d → k < length ss → leads_on last 0 d ≡ true
step_leads ss k last d h e few =
    let on : leads_on last (1 + k) d ≡ true = subst (λ s. leads_on last (1 + k) s ≡ true) (sym e) (leads_at last 1 k ss d h few) in
    and-both (is_ahead 0 last d.ok.to) (is_ahead 0 last d.failed.to)
    (nearer 0 (1 + k) last d.ok.to (omega arith) (and-left (is_ahead (1 + k) last d.ok.to) (is_ahead (1 + k) last d.failed.to) on))
    (nearer 0 (1 + k) last d.failed.to (omega arith) (and-right (is_ahead (1 + k) last d.ok.to) (is_ahead (1 + k) last d.failed.to) on))

pub all_leads : (begin : Target) (ss xs : List Step) → all_lead_on begin ss ≡ true → xs ≡ ss → lead_on (suc (length xs)) 1 xs ≡ true
all_leads begin ss xs h e =
    subst (λ (ys : List Step). lead_on (suc (length ys)) 1 ys ≡ true) (sym e) (and-right (is_ahead 0 (suc (length ss)) begin.to) (lead_on (suc (length ss)) 1 ss) h)

pub steps_lead : (begin : Target) (ss xs : List Step) (k : ℕ) (d : Step) → all_lead_on begin ss ≡ true → xs ≡ ss → d ≡ get_or ss k d → k < length ss → leads_on (suc (length xs)) 0 d ≡ true
steps_lead begin ss xs k d h e f few =
    subst (λ (ys : List Step). leads_on (suc (length ys)) 0 d ≡ true) (sym e)
    (step_leads ss k (suc (length ss)) d (all_leads begin ss ss h refl) f few)

pub below_all : (ns : List ℕ) (b : ℕ) → are_below b ns ≡ true → All (λ n. n < b) ns
below_all [] b e k d h = absurd (omega arith)
below_all (n ∷ ns) b e zero d h = ltb-true n b (and-left (nat_lt n b) (are_below b ns) e)
below_all (n ∷ ns) b e (suc k) d h = below_all ns b (and-right (nat_lt n b) (are_below b ns) e) k d (omega arith)

pub below_same : (ns : List ℕ) (m n : ℕ) → m ≡ n → All (λ k. k < m) ns → All (λ k. k < n) ns
below_same ns m n e h = subst (λ q. All (λ k. k < q) ns) e h

-- after the task of its step the host is where the position goes on
pub goes_to : (steps xs : List Step) (step : Step) (end : TaskEnd) (old new : Position) (node k : ℕ) (l : Location) → xs ≡ steps → step ≡ get_or steps k step → k ≡ node - 1 → k < length steps
    → l ≡ Node node → ((h : FlatHost) → IsAt old h → h.stage ≡ stands (location_view l)) → GoesOn xs step end old new
    → (ss : List flat.Step) → AreKept ss steps → (h : FlatHost) (n : ℕ) (es : List Ended) → IsAt old (standing_at n h) → 0 < n → n ≤ length ss → IsEndOf end (step_at ss n).task es → IsAt new (gone_on ss n es end.notified.items h)
goes_to steps xs step end old new node k l are here before few spot stands_at goes ss kept h n es is low high ends =
    let same : n ≡ node = same_node l n node (stands_at (standing_at n h) is) spot in
    let index : k ≡ n - 1 = before ∙ ap (λ m. m - 1) (sym same) in
    goes.host ss (step_at ss n) (kept ∙ ap (map outline_view) (sym are)) (outline_at ss steps n k step kept index few here) h es (as_same old (standing_at n h) h refl refl refl refl is.as) ends
