-- Going on from step to step, along the plan.
use Rattle.std.proofs.Common.{◌≡◌, ◌≤◌, ◌<◌, ℕ, zero, suc, ◌+◌, ◌-◌, List, [], ◌∷◌, length, drop, get_or, map, Bool, true, false, nat_lt, nat_le, Option, Some, None, refl, sym, ap, subst, ◌∙◌, arith}
use Rattle.std.proofs.lemmas.Bool.{ltb-true}
use Rattle.std.proofs.lemmas.Bool.Decides.{nat_tests}
use Rattle.std.proofs.lemmas.List.{length-map}
use Rattle.pb_semantics.proofs.Bools.{and-left, and-right}
use Rattle.pb_machine.specs.Steps as flat
use Rattle.pb_machine.specs.Hosts.{FlatHost, stands, at, at_end, left_play, all_moved, is_passed, cleared, at_step, arrival}
use Rattle.pb_machine.specs.Ways.{step_along, step_at}
use Rattle.pb_machine.specs.Laws.{IsHigher, AreHigher}
use Rattle.pb_machine.proofs.Tests.{less, not_less}
use Rattle.pb_machine.proofs.Nodes.{at_node, past_end}
use Rattle.pb_flow.specs.Ahead.{is_ahead}
use Rattle.pb_flow.specs.Nodes.{move_view}
use Rattle.pb_flow.specs.declared.graph.Target.{Target}
use Rattle.pb_steps.specs.Leads.{leads_on, lead_on}
use Rattle.pb_steps.specs.Outlines.{Outline, outline, outline_view}
use Rattle.pb_steps.specs.declared.step.Step.{Step}
use Rattle.pb_position.specs.Positions.{location_view, IsAs, IsAt}
use Rattle.pb_position.specs.Calls.{AreKept, Moves, BeginsTask, BeginsPlay, Reaches, Arrives, emptied, emptied_at_end}
use Rattle.pb_position.specs.declared.position.Position.{Position}
use Rattle.pb_position.specs.declared.position.Location.TheVariants as location
use Rattle.pb_position.specs.Texts.{text_of}

steps_are_as_many : (fs : List flat.Step) (ss : List Step) → AreKept fs ss → length fs ≡ length ss
steps_are_as_many fs ss e = sym (length-map fs outline) ∙ ap length e ∙ length-map ss outline_view

nothing_is_kept : {A : Type 0} → (s : Step) (ss : List Step) → AreKept [] (s ∷ ss) → A
nothing_is_kept s ss e = let none : 0 ≡ suc (length (map outline_view ss)) = ap length e in absurd (omega (arith, none))

kept_of_nothing : {A : Type 0} → (f : flat.Step) (fs : List flat.Step) → AreKept (f ∷ fs) [] → A
kept_of_nothing f fs e = let none : suc (length (map outline fs)) ≡ 0 = ap length e in absurd (omega (arith, none))

first_is_kept : (f : flat.Step) (fs : List flat.Step) (s : Step) (ss : List Step) → AreKept (f ∷ fs) (s ∷ ss) → outline f ≡ outline_view s
first_is_kept f fs s ss e = ap (λ (xs : List Outline). get_or xs 0 (outline f)) e

others_are_kept : (f : flat.Step) (fs : List flat.Step) (s : Step) (ss : List Step) → AreKept (f ∷ fs) (s ∷ ss) → AreKept fs ss
others_are_kept f fs s ss e = ap (λ (xs : List Outline). drop 1 xs) e

pub step_is_kept : (o k n : ℕ) (fs : List flat.Step) (ss : List Step) (d : Step) → AreKept fs ss → o + k ≡ n → k < length ss → outline (step_along fs o n) ≡ outline_view (get_or ss k d)
step_is_kept o k n fs [] d e i h = absurd (omega arith)
step_is_kept o k n [] (s ∷ ss) d e i h = nothing_is_kept s ss e
step_is_kept o zero n (f ∷ fs) (s ∷ ss) d e i h = rw (not_less o n (omega arith)) (first_is_kept f fs s ss e)
step_is_kept o (suc k) n (f ∷ fs) (s ∷ ss) d e i h = rw (less o n (omega arith)) (step_is_kept (suc o) k n fs ss d (others_are_kept f fs s ss e) (omega arith) (omega arith))

ahead_is_higher : (o last : ℕ) (to : Option ℕ) → is_ahead o last to ≡ true → IsHigher last o to
ahead_is_higher o last None h = tt
ahead_is_higher o last (Some n) h = (ltb-true o n (and-left (nat_lt o n) (nat_le n last) h), grind (arith, nat_tests, and-right (nat_lt o n) (nat_le n last) h))

step_leads_on : (last o : ℕ) (s : Step) (ss : List Step) → lead_on last o (s ∷ ss) ≡ true → leads_on last o s ≡ true
step_leads_on last o s ss h = and-left (leads_on last o s) (lead_on last (suc o) ss) h

others_lead_on : (last o : ℕ) (s : Step) (ss : List Step) → lead_on last o (s ∷ ss) ≡ true → lead_on last (suc o) ss ≡ true
others_lead_on last o s ss h = and-right (leads_on last o s) (lead_on last (suc o) ss) h

is_higher_where_done : (last o : ℕ) (f : flat.Step) (s : Step) → outline f ≡ outline_view s → leads_on last o s ≡ true → IsHigher last o f.ok.to
is_higher_where_done last o f s e h =
    subst (λ (to : Option ℕ). IsHigher last o to) (sym (ap (λ (x : Outline). x.ok.to) e))
    (ahead_is_higher o last s.ok.to (and-left (is_ahead o last s.ok.to) (is_ahead o last s.failed.to) h))

is_higher_where_failed : (last o : ℕ) (f : flat.Step) (s : Step) → outline f ≡ outline_view s → leads_on last o s ≡ true → IsHigher last o f.failed.to
is_higher_where_failed last o f s e h =
    subst (λ (to : Option ℕ). IsHigher last o to) (sym (ap (λ (x : Outline). x.failed.to) e))
    (ahead_is_higher o last s.failed.to (and-right (is_ahead o last s.ok.to) (is_ahead o last s.failed.to) h))

steps_lead_higher : (last o : ℕ) (fs : List flat.Step) (ss : List Step) → AreKept fs ss → lead_on last o ss ≡ true → AreHigher last o fs
steps_lead_higher last o [] ss e h = tt
steps_lead_higher last o (f ∷ fs) [] e h = kept_of_nothing f fs e
steps_lead_higher last o (f ∷ fs) (s ∷ ss) e h =
    let same = first_is_kept f fs s ss e in
    let here = step_leads_on last o s ss h in (
      is_higher_where_done last o f s same here,
      is_higher_where_failed last o f s same here,
      steps_lead_higher last (suc o) fs ss (others_are_kept f fs s ss e) (others_lead_on last o s ss h),
    )

pub step_leads_ahead : (last o k : ℕ) (ss : List Step) (d : Step) → lead_on last o ss ≡ true → k < length ss → leads_on last (o + k) (get_or ss k d) ≡ true
step_leads_ahead last o k [] d h i = absurd (omega arith)
step_leads_ahead last o zero (s ∷ ss) d h i =
    let same : o ≡ o + 0 = omega arith in
    subst (λ m. leads_on last m s ≡ true) same (step_leads_on last o s ss h)
step_leads_ahead last o (suc k) (s ∷ ss) d h i =
    let same : suc o + k ≡ o + suc k = omega arith in
    subst (λ m. leads_on last m (get_or ss k d) ≡ true) same (step_leads_ahead last (suc o) k ss d (others_lead_on last o s ss h) (omega arith))

-- from here to there, that host arrives
pub record IsLed (fs : List flat.Step) (to : Option ℕ) (p : Position) (goal : FlatHost) : Type 0 where
  pub host : FlatHost
  pub «as» : IsAs p host
  pub same : goal ≡ arrival fs 1 to host

pub record Goes (ss : List Step) (first : Option ℕ) (old : Position) (to : Option ℕ) (p : Position) : Type 0 where
  pub led : (fs : List flat.Step) → AreKept fs ss → (h : FlatHost) → IsAs old h → IsLed fs to p (arrival fs 1 first h)

pub sets_off : (ss : List Step) (first : Option ℕ) (p : Position) → Goes ss first p first p
sets_off ss first p = record { led = λ fs kept h i. record { host = h; «as» = i; same = refl } }

is_at : (p : Position) (goal h : FlatHost) → goal ≡ h → IsAs p h → h.stage ≡ stands (location_view p.location) → IsAt p goal
is_at p goal h e i f = subst (λ (x : FlatHost). IsAt p x) (sym e) (record { «as» = i; stage = f })

pub leaves_the_play : (ss : List Step) (first : Option ℕ) (old p q : Position) (to : Option ℕ) → Goes ss first old to p → to ≡ None
    → ((h : FlatHost) → IsAs p h → IsAt q (record h { stage = stands left_play })) → Reaches ss first old q
leaves_the_play ss first old p q to goes none leaves = record {
  host = λ fs kept h i.
      let l = goes.led fs kept h i in
      subst (λ (x : FlatHost). IsAt q x) (sym (l.same ∙ ap (λ o. arrival fs 1 o l.host) none))
      (leaves l.host l.as);
}

pub comes_to_the_end : (ss : List Step) (first : Option ℕ) (old p : Position) (to : Option ℕ) (n : ℕ) → Goes ss first old to p → to ≡ Some n → length ss < n → Reaches ss first old (record p { location = location.End })
comes_to_the_end ss first old p to n goes some past = record {
  host = λ fs kept h i.
      let l = goes.led fs kept h i in
      is_at (record p { location = location.End }) _ (record l.host { stage = stands at_end })
      (l.same ∙ ap (λ o. arrival fs 1 o l.host) some ∙ past_end fs n l.host (omega (arith, steps_are_as_many fs ss kept)))
      (record { marks = l.as.marks; failure = l.as.failure; rescues = l.as.rescues; holds = l.as.holds }) refl;
}

-- what becomes of a host at a step, by what is kept of it: whether that one is passed over
abbrev at_outline : (Option ℕ → FlatHost → FlatHost) → ℕ → Outline → FlatHost → Bool → FlatHost
at_outline go n x h true = go x.ok.to (all_moved x.ok.moves h)
at_outline go n x h false = record h { marks = cleared x.handler h.marks; stage = stands (at n) }

by_outline : (go : Option ℕ → FlatHost → FlatHost) (n : ℕ) (f : flat.Step) (h : FlatHost) (q : Bool) → at_step go n f n h false q ≡ at_outline go n (outline f) h q
by_outline go n f h true = refl
by_outline go n f h false = refl

module _ (ss : List Step) (leads : lead_on (suc (length ss)) 1 ss ≡ true) (n k : ℕ) (s : Step) (number : suc k ≡ n) (within : k < length ss) (is : s ≡ get_or ss k s) where
  arrives_by_the_step : (fs : List flat.Step) → AreKept fs ss → (h : FlatHost) (q : Bool) → is_passed s.handler h.marks ≡ q → arrival fs 1 (Some n) h ≡ at_outline (arrival fs 1) n (outline_view s) h q
  arrives_by_the_step fs kept h q e =
      let f = step_at fs n in
      let go = arrival fs 1 in
      let step_is : outline f ≡ outline_view s = step_is_kept 1 k n fs ss s kept (omega arith) within ∙ ap outline_view (sym is) in
      at_node fs (suc (length ss)) n h (steps_lead_higher (suc (length ss)) 1 fs ss kept leads) (omega arith) (omega (arith, steps_are_as_many fs ss kept))
      ∙ by_outline go n f h (is_passed f.handler h.marks)
      ∙ ap (λ (x : Outline). at_outline go n x h (is_passed x.handler h.marks)) step_is
      ∙ ap (at_outline go n (outline_view s) h) e

  pub stands_at_the_step : (first : Option ℕ) (old p r : Position) (to : Option ℕ) → Goes ss first old to p → to ≡ Some n → BeginsTask s.handler p r true → Reaches ss first old (record r { location = location.Node n })
  stands_at_the_step first old p r to goes some begins = record {
    host = λ fs kept h i.
        let l = goes.led fs kept h i in
        let j = begins.marks l.host l.as in
        is_at (record r { location = location.Node n }) _ (record l.host { marks = cleared s.handler l.host.marks; stage = stands (at n) })
        (l.same ∙ ap (λ o. arrival fs 1 o l.host) some ∙ arrives_by_the_step fs kept l.host false (begins.test l.host l.as))
        (record { marks = j.marks; failure = j.failure; rescues = j.rescues; holds = j.holds }) refl;
  }

  pub passes_the_handler : (first : Option ℕ) (old p q r : Position) (to : Option ℕ) → Goes ss first old to p → to ≡ Some n → BeginsTask s.handler p q false → Moves s.ok.moves.items q r → Goes ss first old s.ok.to r
  passes_the_handler first old p q r to goes some begins moves = record {
    led = λ fs kept h i.
        let l = goes.led fs kept h i in record {
          host = all_moved (map move_view s.ok.moves.items) l.host;
          «as» = moves.moved l.host (begins.marks l.host l.as);
          same = l.same ∙ ap (λ o. arrival fs 1 o l.host) some ∙ arrives_by_the_step fs kept l.host true (begins.test l.host l.as);
        };
  }

pub moves_and_reaches : (ss : List Step) (t : Target) (old p new : Position) → Moves t.moves.items old p → Reaches ss t.to p new → Arrives ss t old new
moves_and_reaches ss t old p new moves reaches = record {
  host = λ fs kept h i. reaches.host fs kept (all_moved (map move_view t.moves.items) h) (moves.moved h i);
}

-- a play begins for the host whose last failure has that text
pub empty_arrives_at_the_begin : (ss : List Step) (begin : Target) (old p new : Position) → ((h : FlatHost) → text_of old.failure ≡ h.failure → IsAt p (emptied_at_end h)) → Arrives ss begin p new → BeginsPlay ss begin old new
empty_arrives_at_the_begin ss begin old p new is_empty arrives = record {
  host = λ fs kept h i.
      let e = (is_empty h i.failure).as in
      arrives.host fs kept (emptied h) (record { marks = e.marks; failure = e.failure; rescues = e.rescues; holds = e.holds });
}

-- how far it may still be
abbrev pub far : ℕ → Option ℕ → ℕ
far last None = 0
far last (Some n) = suc (last - n)

pub comes_nearer : (last n : ℕ) (to : Option ℕ) → n ≤ last → is_ahead n last to ≡ true → far last to < far last (Some n)
comes_nearer last n None h a = omega arith
comes_nearer last n (Some m) h a = let b : (n < m) × (m ≤ last) = ahead_is_higher n last (Some m) a in omega (arith, b.0, b.1)

pub ahead_of_the_start : (n last : ℕ) (to : Option ℕ) → is_ahead n last to ≡ true → is_ahead 0 last to ≡ true
ahead_of_the_start n last None a = refl
ahead_of_the_start n last (Some m) a = let b : (n < m) × (m ≤ last) = ahead_is_higher n last (Some m) a in rw (less 0 m (omega (arith, b.0)), and-right (nat_lt n m) (nat_le m last) a) refl

pub number_is_within : (last n : ℕ) (to : Option ℕ) → is_ahead 0 last to ≡ true → to ≡ Some n → (0 < n) × (n ≤ last)
number_is_within last n to a e = ahead_is_higher 0 last (Some n) (ap (is_ahead 0 last) (sym e) ∙ a)

pub leads_ahead_from : (n k : ℕ) (ss : List Step) (s : Step) → lead_on (suc (length ss)) 1 ss ≡ true → suc k ≡ n → k < length ss → s ≡ get_or ss k s → is_ahead n (suc (length ss)) s.ok.to ≡ true
leads_ahead_from n k ss s leads e h is =
    let same : 1 + k ≡ n = omega arith in
    let ahead : leads_on (suc (length ss)) n s ≡ true = subst (λ (x : Step). leads_on (suc (length ss)) n x ≡ true) (sym is)
    (subst (λ i. leads_on (suc (length ss)) i (get_or ss k s) ≡ true) same (step_leads_ahead (suc (length ss)) 1 k ss s leads h)) in
    and-left (is_ahead n (suc (length ss)) s.ok.to) (is_ahead n (suc (length ss)) s.failed.to) ahead
