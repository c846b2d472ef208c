-- An accepted book is never stuck and stays within its budget.
use Rattle.std.proofs.Common.{◌≡◌, ◌≤◌, ℕ, zero, suc, List, [], ◌∷◌, Bool, true, false, ◌||◌, cond, Option, Some, None, refl, sym, ap, subst, arith, true≢false, bytes_eq}
use Rattle.pb_semantics.specs.Keeps.{is_among, Models}
use Rattle.pb_semantics.proofs.Bools.{untrue}
use Rattle.pb_semantics.proofs.Names.{same_name}
use Rattle.pb_language.specs.Expression.{Name}
use Rattle.pb_language.specs.World.{HostVariables, variables_of}
use Rattle.pb_language.specs.Scope.{View, view_of, Later}
use Rattle.pb_language.specs.Kinds.{known_slots}
use Rattle.pb_language.specs.Judgement.{Exit, live}
use Rattle.pb_language.specs.Program.{Inventory, Program}
use Rattle.pb_language.specs.Tables.{HostWalk, plays_walked, plays_calls, hosts_walked, all_walked, known_views, views_after, are_settled, laters_of, play_laters, walks_after, budget_of}
use Rattle.pb_language.specs.Verdict.{Refusal, Verdict, accepted, first_offence, offence_verdict, flow_verdict}
use Rattle.pb_language.specs.Plays.{program_of}
use Rattle.pb_language.specs.Rules.{rules_offence}
use Rattle.pb_language.specs.Theorem.{host_names, are_distinct, NeverStuck, WithinBudget}
use Rattle.pb_language.specs.Machine.{Event, waits, over, Host, State, host_at, empty_recap, opening_hosts, opening, run_from}
use Rattle.pb_language.proofs.Claims.{StartClaim, GiveClaim, AfterClaim}
use Rattle.pb_language.proofs.WellKinds.{well_known_slots}
use Rattle.pb_language.proofs.Seen.{names_of, total}
use Rattle.pb_language.proofs.Runs.{Fixed, Kept}
use Rattle.pb_language.proofs.Turns.{PlansFine, Good}
use Rattle.pb_language.proofs.Steps.{Fine, Resting, resting_owes, plays_begun, run_fine, fine_within}
use Rattle.pb_language.proofs.Rounds.{absent_next, variables_at, found_at, known_models, views_well, views_models}
use Rattle.pb_language.proofs.Accepted.{accepted_parts, AllGood, all_good}
use Rattle.pb_language.proofs.Certain.{laters_hold}
use Rattle.pb_language.proofs.Cuts.{AllCut, program_cut}

-- under `free` nothing is said of later places
free_laters : (q : Bool) (l : List Later) → q ≡ false → cond q l [] ≡ []
free_laters true l e = absurd (true≢false e)
free_laters false l e = refl

plans_fine : (ps : Program) (ws : List HostWalk) → AllCut ps → PlansFine ps (laters_of ps ws)
plans_fine [] ws c = tt
plans_fine (p ∷ ps) ws c = (c.0, λ e. free_laters p.is_linear (play_laters p ws) e, plans_fine ps (walks_after p ws) c.1)

opening_names : (xs : List HostVariables) → names_of (opening_hosts xs) ≡ host_names xs
opening_names [] = refl
opening_names (x ∷ xs) = ap (λ ns. x.name ∷ ns) (opening_names xs)

-- a host as the run opens
record Opened (xs : List HostVariables) (k : ℕ) (h : Host) : Type 0 where
  host : HostVariables
  found : variables_at k xs ≡ Some host
  name : h.name ≡ host.name
  variables : h.variables ≡ host.variables
  stage : h.stage ≡ waits over

opened : (xs : List HostVariables) (k : ℕ) (h : Host) → host_at k (opening_hosts xs) ≡ Some h → Opened xs k h
opened [] k h e = absurd (true≢false (cc))
opened (x ∷ xs) zero h e =
    let i : record { name = x.name; variables = x.variables; marks = []; failure = []; rescues = []; holds = []; stage = waits over; recap = empty_recap } ≡ h = cc in
    record { host = x; found = refl; name = sym (ap (λ z. z.name) i); variables = sym (ap (λ z. z.variables) i); stage = sym (ap (λ z. z.stage) i) }
opened (x ∷ xs) (suc k) h e =
    let o = opened xs k h e in
    record { host = o.host; found = o.found; name = o.name; variables = o.variables; stage = o.stage }

module _ (after_claim : AfterClaim) (start_claim : StartClaim) (give_claim : GiveClaim) (program : Program) (inventory : Inventory) (limit : ℕ) (distinct : are_distinct (host_names inventory.hosts) ≡ true) (cuts : AllCut program) where
  abbrev ls : List (List Later)
  ls = laters_of program (all_walked inventory program (known_views inventory.hosts) [])

  abbrev views : List View
  views = views_after 4 inventory program ls

  abbrev ways : List HostWalk
  ways = all_walked inventory program views ls

  pub fixed : Fixed inventory views
  fixed = record {
    distinct = distinct;
    wells = views_well after_claim inventory program ls 4;
    absent = λ g i. absent_next inventory (views_after 3 inventory program ls) (views_after 3 inventory program ls) program ls g inventory.hosts i;
  }

  -- a host begins with what the inventory says
  abbrev exits : Name → Exit
  exits n = live (known_slots (variables_of n inventory.hosts))

  good_step : (q : Bool) (n : Name) (x : HostVariables) (xs : List HostVariables) → bytes_eq n x.name ≡ q → (n ≡ x.name → Good inventory views fixed start_claim give_claim after_claim limit n (live (known_slots x.variables)) program ls)
      → (q ≡ false → Good inventory views fixed start_claim give_claim after_claim limit n (live (known_slots (variables_of n xs))) program ls) → Good inventory views fixed start_claim give_claim after_claim limit n (live (known_slots (cond q x.variables (variables_of n xs)))) program ls
  good_step true n x xs e f g = f (same_name n x.name e)
  good_step false n x xs e f g = g refl

  later_name : (q b : Bool) → q || b ≡ true → q ≡ false → b ≡ true
  later_name true b h e = absurd (true≢false e)
  later_name false b h e = h

  good_named : (n : Name) (xs : List HostVariables) → AllGood inventory views fixed start_claim give_claim after_claim limit program ls xs → is_among n (host_names xs) ≡ true
      → Good inventory views fixed start_claim give_claim after_claim limit n (live (known_slots (variables_of n xs))) program ls
  good_named n [] a i = untrue i
  good_named n (x ∷ xs) a i =
      good_step (bytes_eq n x.name) n x xs refl (λ e. subst (λ m. Good inventory views fixed start_claim give_claim after_claim limit m (live (known_slots x.variables)) program ls) (sym e) a.0)
      (λ e. good_named n xs a.1 (later_name (bytes_eq n x.name) (is_among n (host_names xs)) i e))

  total_opening : (xs : List HostVariables) → ((k : ℕ) (x : HostVariables) → variables_at k xs ≡ Some x → variables_of x.name inventory.hosts ≡ x.variables) → total (resting_owes inventory views fixed start_claim give_claim after_claim limit exits program ls) (opening_hosts xs) ≤ budget_of (hosts_walked inventory views program ls xs)
  total_opening [] f = omega arith
  total_opening (x ∷ xs) f =
      let rest = total_opening xs (λ k y e. f (suc k) y e) in
      let same = ap (λ vars. plays_calls (plays_walked inventory views x.name (live (known_slots vars)) program ls)) (f 0 x refl) in
      omega (arith, rest, same)

  abbrev begin : ℕ → State
  begin forks = record { inventory = inventory; forks = forks; hosts = opening_hosts inventory.hosts; batches = []; handed = 0; is_stuck = false; is_stopped = false }

  resting : (k : ℕ) (h : Host) → Opened inventory.hosts k h → Resting inventory views fixed start_claim give_claim after_claim limit exits h.name h.variables h.stage
  resting k h o =
      let found = found_at k inventory.hosts o.host distinct o.found in
      let m : Models o.host.variables (known_slots (variables_of o.host.name inventory.hosts)) = rw found (known_models o.host.variables) in
      subst (λ g. Resting inventory views fixed start_claim give_claim after_claim limit exits h.name h.variables g) (sym o.stage)
      (subst (λ n. Models h.variables (known_slots (variables_of n inventory.hosts))) (sym o.name) (subst (λ vars. Models vars (known_slots (variables_of o.host.name inventory.hosts))) (sym o.variables) m))

  kept : (forks : ℕ) → Kept inventory views (begin forks)
  kept forks = record {
    same = refl;
    names = opening_names inventory.hosts;
    fresh = refl;
    models = λ k h e.
        let o = opened inventory.hosts k h e in
        subst (λ n. Models h.variables (view_of n views)) (sym o.name) (subst (λ vars. Models vars (view_of o.host.name views)) (sym o.variables) (views_models after_claim inventory program ls distinct 4 k o.host o.found));
  }

  pub opening_fine : (forks : ℕ) → first_offence ways ≡ None → are_settled ways views ≡ true → budget_of ways ≡ limit → Fine inventory views fixed start_claim give_claim after_claim limit (opening program inventory forks)
  opening_fine forks o b m =
      let have = laters_hold program inventory 4 distinct in
      let good = all_good inventory views fixed start_claim give_claim after_claim limit program ls inventory.hosts o b have in
      let t = total_opening inventory.hosts (λ k x e. found_at k inventory.hosts x distinct e) in
      plays_begun inventory views fixed start_claim give_claim after_claim limit program ls exits (begin forks) (plans_fine program (all_walked inventory program (known_views inventory.hosts) []) cuts) (kept forks)
      (record { well = λ n i. well_known_slots (variables_of n inventory.hosts); good = λ n i. good_named n inventory.hosts good i }) (λ k h e. resting k h (opened inventory.hosts k h e)) (omega (arith, t, m))

  pub sound : (forks : ℕ) (es : List Event) → flow_verdict program inventory ≡ accepted limit → ((run_from (opening program inventory forks) es).is_stuck ≡ false) × ((run_from (opening program inventory forks) es).handed ≤ limit)
  sound forks es h =
      let a = accepted_parts (first_offence ways) (are_settled ways views) (budget_of ways) limit h in
      let f = run_fine inventory views fixed start_claim give_claim after_claim limit es (opening program inventory forks) (opening_fine forks a.0 a.1 a.2) in
      (f.kept.fresh, fine_within inventory views fixed start_claim give_claim after_claim limit (run_from (opening program inventory forks) es) f)

flow_of : (o : Option Refusal) (v : Verdict) (n : ℕ) → offence_verdict o v ≡ accepted n → v ≡ accepted n
flow_of None v n h = h
flow_of (Some r) v n h = absurd (true≢false (cc))

module _ (after_claim : AfterClaim) (start_claim : StartClaim) (give_claim : GiveClaim) where
  pub never_stuck_from : NeverStuck
  never_stuck_from ms inventory b n forks es d h =
      (sound after_claim start_claim give_claim (program_of ms inventory b) inventory n d (program_cut ms inventory b) forks es (flow_of (rules_offence ms inventory b) (flow_verdict (program_of ms inventory b) inventory) n h)).0

  pub within_budget_from : WithinBudget
  within_budget_from ms inventory b n forks es d h =
      (sound after_claim start_claim give_claim (program_of ms inventory b) inventory n d (program_cut ms inventory b) forks es (flow_of (rules_offence ms inventory b) (flow_verdict (program_of ms inventory b) inventory) n h)).1
