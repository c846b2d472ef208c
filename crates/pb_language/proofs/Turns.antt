-- What a Turn to the next batch keeps.
use Rattle.std.proofs.Common.{◌≡◌, ◌≤◌, ◌+◌, ℕ, suc, List, [], ◌∷◌, Bool, true, false, ◌&&◌, ◌||◌, cond, Some, length, refl, sym, ap, subst, ◌∙◌, arith, true≢false}
use Rattle.pb_semantics.specs.Data.{Fields}
use Rattle.pb_semantics.specs.Kind.{Slots}
use Rattle.pb_semantics.specs.Keeps.{is_among, Models}
use Rattle.pb_semantics.specs.Below.{are_among}
use Rattle.pb_semantics.proofs.Bools.{untrue, and-left, and-right, or-left, or-right, true-false}
use Rattle.pb_language.specs.Expression.{Name}
use Rattle.pb_language.specs.Scope.{View, view_of, Later, later_of}
use Rattle.pb_language.specs.Rest.{done, left, rest_of}
use Rattle.pb_language.specs.Judgement.{Exit, dead, live}
use Rattle.pb_language.specs.Walk.{walk}
use Rattle.pb_language.specs.Program.{Inventory, Play, Program, Batch, setting_of}
use Rattle.pb_language.specs.Tables.{first_laters, other_laters, place_length}
use Rattle.pb_language.specs.Verdict.{exit_has}
use Rattle.pb_language.specs.Theorem.{host_names}
use Rattle.pb_language.specs.Machine.{over, gone, begins, Stage, waits, runs, Host, State, settled, is_on, is_on_stage, host_at, begun, all_begun}
use Rattle.pb_language.specs.Wells.{WellExit}
use Rattle.pb_language.proofs.Claims.{StartClaim, GiveClaim, AfterClaim}
use Rattle.pb_language.proofs.Ways.{above_itself, WellAfter, VisitFine, AllVisits, typed_row}
use Rattle.pb_language.proofs.Seen.{host_begun, names_of, total}
use Rattle.pb_language.proofs.Positions.{ExitModels, in_any, walked, bound, later, after_play, future, whole, EndsAt, TypedAt, Over, StageFine, owes, settled_fine, settled_owes, most_row}
use Rattle.pb_language.proofs.Runs.{settled_name, settled_variables, Fixed, Kept, HostsFine}

abbrev pub If : Bool → Type 0 → Type 0 → Type 0
If true A B = A
If false A B = B

-- the batches of a play don't share a host
abbrev pub AllApart : List (List Name) → Type 0
AllApart [] = Unit {0}
AllApart (b ∷ bs) = ((n : Name) → is_among n b ≡ true → in_any n bs ≡ false) × AllApart bs

-- they are of its hosts, and no longer than their list
abbrev pub AllWithin : List Name → List (List Name) → Type 0
AllWithin hs [] = Unit {0}
AllWithin hs (b ∷ bs) = (are_among b hs ≡ true) × (length b ≤ length hs) × AllWithin hs bs

pub record CutFine (p : Play) : Type 0 where
  pub parts : (n : Name) → is_among n p.hosts ≡ in_any n p.batches
  pub apart : AllApart p.batches
  pub within : AllWithin p.hosts p.batches

abbrev pub PlansFine : Program → List (List Later) → Type 0
PlansFine [] ls = Unit {0}
PlansFine (p ∷ ps) ls = CutFine p × (p.is_linear ≡ false → first_laters ls ≡ []) × PlansFine ps (other_laters ls)

module _ (inventory : Inventory) (views : List View) (fixed : Fixed inventory views) (start_claim : StartClaim) (give_claim : GiveClaim) (after_claim : AfterClaim) (limit : ℕ) where
  pub after_fine : (p : Play) (l : List Later) (n : Name) → WellAfter (setting_of inventory p views l n)
  after_fine p l n = record {
    going = λ t env w f. (after_claim (setting_of inventory p views l n) fixed.wells t env w).0;
    failing = λ t env w f. (after_claim (setting_of inventory p views l n) fixed.wells t env w).1;
  }

  -- a host's way through a play is fine
  pub record PlayGood (p : Play) (l : List Later) (n : Name) (e : Exit) : Type 0 where
    pub visits : AllVisits (λ v. VisitFine (view_of n views) (later_of n l) (λ t. place_length t t.loop (walk (setting_of inventory p views l n) p.row e).visits) v) (walk (setting_of inventory p views l n) p.row e).visits
    pub ends : exit_has (later_of n l) (walk (setting_of inventory p views l n) p.row e).well ≡ true

  abbrev pub Good : Name → Exit → Program → List (List Later) → Type 0
  Good n e [] ls = Unit {0}
  Good n e (p ∷ ps) ls =
      If (is_among n p.hosts) (PlayGood p (first_laters ls) n e × Good n (walk (setting_of inventory p views (first_laters ls) n) p.row e).well ps (other_laters ls)) (Good n e ps (other_laters ls))

  -- what is known of each host before some plays: its exit is well formed, and its ways through them are fine
  pub record Ahead (exits : Name → Exit) (ps : Program) (ls : List (List Later)) : Type 0 where
    pub well : (n : Name) → is_among n (host_names inventory.hosts) ≡ true → WellExit (exits n)
    pub good : (n : Name) → is_among n (host_names inventory.hosts) ≡ true → Good n (exits n) ps ls

  module _ (p : Play) (l : List Later) (exits : Name → Exit) (ps : Program) (ls : List (List Later)) where
    -- an idle host before a batch begins, of those of the play that are still to run
    abbrev pub Idle : List (List Name) → Name → Fields → Stage → Type 0
    Idle bs n vars (waits over) = (in_any n bs ≡ true → ExitModels vars (exits n)) × (in_any n bs ≡ false → ExitModels vars (after_play views inventory p l exits ps ls n))
    Idle bs n vars (waits gone) = Unit {0}
    Idle bs n vars (waits (begins t x y)) = false ≡ true
    Idle bs n vars (runs t tries passes x y) = false ≡ true

    abbrev pub idle_owes : List (List Name) → Name → Stage → ℕ
    idle_owes bs n (waits over) = cond (in_any n bs) (whole views inventory p l exits ps ls n) (future views inventory p l exits ps ls n)
    idle_owes bs n g = 0

    module _ (b : List Name) (bs : List (List Name)) where
      abbrev pub begin_batch : Batch
      begin_batch = record { play = p; members = b }

      module _ (n : Name) (here : is_among n b ≡ true) (apart : in_any n bs ≡ false) (mine : is_among n p.hosts ≡ true) (play : PlayGood p l n (exits n)) (well : WellExit (exits n)) where
        after_here : after_play views inventory p l exits ps ls n ≡ (walked views inventory p l exits ps ls n).well
        after_here = rw mine refl

        ends_typed : (e : Exit) → after_play views inventory p l exits ps ls n ≡ e → exit_has (later_of n l) e ≡ true → TypedAt views inventory p l exits ps ls n e done
        ends_typed dead i h = tt
        ends_typed (live env) i h = (env, above_itself env, h, (env, i, above_itself env))

        left_typed : (e : Exit) → TypedAt views inventory p l exits ps ls n e left
        left_typed dead = tt
        left_typed (live env) = tt

        -- the ways through the play's row are typed from where the host begins it
        row_typed : TypedAt views inventory p l exits ps ls n (exits n) (rest_of p.row 0 done left)
        row_typed =
            typed_row (setting_of inventory p views l n) (view_of n views) (later views inventory p l exits ps ls n) (bound views inventory p l exits ps ls n) (after_fine p l n) (EndsAt views inventory p l exits ps ls n) p.row 0 (exits n) done left well play.visits
            (ends_typed (walked views inventory p l exits ps ls n).well after_here play.ends) (left_typed (walked views inventory p l exits ps ls n).hurt)

        from_exit : (e : Exit) (vars : Fields) → ExitModels vars e → (Q : Exit → Type 0) → Q e → (env : Slots) × Models vars env × Q (live env)
        from_exit dead vars m Q q = untrue m
        from_exit (live env) vars m Q q = (env, m, q)

        begun_stage : (h : Host) (vars : Fields) → ExitModels vars (exits n) → StageFine views inventory p l exits ps ls b bs n vars (settled h (rest_of p.row 0 done left)).stage
        begun_stage h vars m =
            let z = from_exit (exits n) vars m (λ e. TypedAt views inventory p l exits ps ls n e (rest_of p.row 0 done left)) row_typed in
            settled_fine views inventory p l exits ps ls b bs n here apart (rest_of p.row 0 done left) h vars z.0 z.1 z.2

        begun_owes : (h : Host) → owes views inventory p l exits ps ls b bs n (settled h (rest_of p.row 0 done left)).stage ≤ whole views inventory p l exits ps ls n
        begun_owes h =
            let i = settled_owes views inventory p l exits ps ls b bs n here apart (rest_of p.row 0 done left) h in
            let j = most_row views inventory p l exits ps ls n p.row 0 done left 0 (omega arith) (omega arith) in
            omega (arith, i, j)

      -- what is known of a host of the batch
      pub record Member (n : Name) : Type 0 where
        pub apart : in_any n bs ≡ false
        pub mine : is_among n p.hosts ≡ true
        pub play : PlayGood p l n (exits n)
        pub well : WellExit (exits n)

      abbrev pub restarted : Host → Host
      restarted h = settled (record h { marks = []; rescues = []; holds = [] }) (rest_of p.row 0 done left)

      begun_member : (h : Host) → is_among h.name b ≡ true → Member h.name → ExitModels h.variables (exits h.name)
          → StageFine views inventory p l exits ps ls b bs (restarted h).name (restarted h).variables (restarted h).stage × (owes views inventory p l exits ps ls b bs (restarted h).name (restarted h).stage ≤ whole views inventory p l exits ps ls h.name)
      begun_member h here m e =
          let x = record h { marks = []; rescues = []; holds = [] } in
          let name = settled_name x (rest_of p.row 0 done left) in
          let vars = settled_variables x (rest_of p.row 0 done left) in
          let f = begun_stage h.name here m.apart m.mine m.play m.well x h.variables e in
          let o = begun_owes h.name here m.apart m.mine m.play m.well x in
          (rw (name, vars) f, rw name o)

      whole_there : (q : Bool) (m n : ℕ) → q ≡ true → cond q m n ≡ m
      whole_there true m n e = refl
      whole_there false m n e = untrue e

      stays_over : (n : Name) (vars : Fields) → is_among n b ≡ false → Idle (b ∷ bs) n vars (waits over) → Over views inventory p l exits ps ls b bs n vars
      stays_over n vars away i = record {
        before = λ q. i.0 (or-right (is_among n b) (in_any n bs) q);
        after = λ q. i.1 (rw (away, q) refl);
        there = λ q. true-false (is_among n b) q away;
      }

      stays_owes : (n : Name) → is_among n b ≡ false → cond (in_any n bs) (whole views inventory p l exits ps ls n) (future views inventory p l exits ps ls n) ≤ idle_owes (b ∷ bs) n (waits over)
      stays_owes n away = rw away (omega arith)

      abbrev pub BegunFine : Name → Host → Stage → Type 0
      BegunFine n x g = StageFine views inventory p l exits ps ls b bs x.name x.variables x.stage × (owes views inventory p l exits ps ls b bs x.name x.stage ≤ idle_owes (b ∷ bs) n g)

      stays : (h : Host) (g : Stage) → h.stage ≡ g → StageFine views inventory p l exits ps ls b bs h.name h.variables g → owes views inventory p l exits ps ls b bs h.name g ≤ idle_owes (b ∷ bs) h.name g → BegunFine h.name h g
      stays h g e f o =
          (subst (λ z. StageFine views inventory p l exits ps ls b bs h.name h.variables z) (sym e) f, subst (λ z. owes views inventory p l exits ps ls b bs h.name z ≤ idle_owes (b ∷ bs) h.name g) (sym e) o)

      other_false : (x y : Bool) → x ≡ true → x && y ≡ false → y ≡ false
      other_false true y e i = i
      other_false false y e i = untrue e

      begun_over : (h : Host) (q : Bool) → h.stage ≡ waits over → is_on h && is_among h.name b ≡ q → Idle (b ∷ bs) h.name h.variables (waits over) → (is_among h.name b ≡ true → Member h.name) → BegunFine h.name (cond q (restarted h) h) (waits over)
      begun_over h true e both i f =
          let here = and-right (is_on h) (is_among h.name b) both in
          let there = or-left (is_among h.name b) (in_any h.name bs) here in
          let y = begun_member h here (f here) (i.0 there) in
          (y.0, rw (whole_there (is_among h.name b || in_any h.name bs) (whole views inventory p l exits ps ls h.name) (future views inventory p l exits ps ls h.name) there) y.1)
      begun_over h false e both i f =
          let away = other_false (is_on h) (is_among h.name b) (ap is_on_stage e) both in
          stays h (waits over) e (stays_over h.name h.variables away i) (stays_owes h.name away)

      begun_gone : (h : Host) (q : Bool) → h.stage ≡ waits gone → is_on h && is_among h.name b ≡ q → BegunFine h.name (cond q (restarted h) h) (waits gone)
      begun_gone h true e both = absurd (true≢false (sym (and-left (is_on h) (is_among h.name b) both) ∙ ap is_on_stage e))
      begun_gone h false e both = stays h (waits gone) e tt (omega arith)

      begun_host : (h : Host) (g : Stage) → h.stage ≡ g → Idle (b ∷ bs) h.name h.variables g → (is_among h.name b ≡ true → Member h.name) → BegunFine h.name (begun begin_batch h) g
      begun_host h (waits over) e i f = begun_over h (is_on h && is_among h.name b) e refl i f
      begun_host h (waits gone) e i f = begun_gone h (is_on h && is_among h.name b) e refl
      begun_host h (waits (begins t x y)) e i f = untrue i
      begun_host h (runs t tries passes x y) e i f = untrue i

      begun_name_at : (q : Bool) (h : Host) → (cond q (restarted h) h).name ≡ h.name
      begun_name_at true h = settled_name (record h { marks = []; rescues = []; holds = [] }) (rest_of p.row 0 done left)
      begun_name_at false h = refl

      begun_variables_at : (q : Bool) (h : Host) → (cond q (restarted h) h).variables ≡ h.variables
      begun_variables_at true h = settled_variables (record h { marks = []; rescues = []; holds = [] }) (rest_of p.row 0 done left)
      begun_variables_at false h = refl

      begun_name : (h : Host) → (begun begin_batch h).name ≡ h.name
      begun_name h = begun_name_at (is_on h && is_among h.name b) h

      begun_variables : (h : Host) → (begun begin_batch h).variables ≡ h.variables
      begun_variables h = begun_variables_at (is_on h && is_among h.name b) h

      names_begun : (hs : List Host) → names_of (all_begun begin_batch hs) ≡ names_of hs
      names_begun [] = refl
      names_begun (h ∷ hs) = rw (begun_name h, names_begun hs) refl

      total_begun : (hs : List Host) → ((k : ℕ) (h : Host) → host_at k hs ≡ Some h → BegunFine h.name (begun begin_batch h) h.stage) → total (owes views inventory p l exits ps ls b bs) (all_begun begin_batch hs) ≤ total (idle_owes (b ∷ bs)) hs
      total_begun [] f = omega arith
      total_begun (h ∷ hs) f = let i = (f 0 h refl).1 in let j = total_begun hs (λ k x e. f (suc k) x e) in omega (arith, i, j)

      -- the batch begins
      pub batch_begun : (s : State) (bt : List Batch) → Kept inventory views s → ((k : ℕ) (h : Host) → host_at k s.hosts ≡ Some h → Idle (b ∷ bs) h.name h.variables h.stage)
          → ((k : ℕ) (h : Host) → host_at k s.hosts ≡ Some h → is_among h.name b ≡ true → Member h.name) → s.handed + total (idle_owes (b ∷ bs)) s.hosts ≤ limit
          → Kept inventory views (record s { batches = bt; hosts = all_begun begin_batch s.hosts }) × HostsFine inventory views fixed start_claim give_claim limit p l b bs exits ps ls (record s { batches = bt; hosts = all_begun begin_batch s.hosts })
      batch_begun s bt kept idle member within =
          let each : (k : ℕ) (h : Host) → host_at k s.hosts ≡ Some h → BegunFine h.name (begun begin_batch h) h.stage = λ k h e. begun_host h h.stage refl (idle k h e) (member k h e) in (
            record {
              same = kept.same;
              names = names_begun s.hosts ∙ kept.names;
              fresh = kept.fresh;
              models = λ k y e. let z = host_begun begin_batch k s.hosts y e in subst (λ x. Models x.variables (view_of x.name views)) z.2 (rw (begun_name z.0, begun_variables z.0) (kept.models k z.0 z.1));
            },
            record {
              stands = λ k y e. let z = host_begun begin_batch k s.hosts y e in subst (λ x. StageFine views inventory p l exits ps ls b bs x.name x.variables x.stage) z.2 (each k z.0 z.1).0;
              within = let t = total_begun s.hosts each in omega (arith, t, within);
            },
          )
