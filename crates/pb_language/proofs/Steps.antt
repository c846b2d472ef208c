-- Every step of a run keeps what is known of it.
use Rattle.std.proofs.Common.{◌≡◌, ◌≤◌, ◌+◌, ◌⊎◌, inl, inr, ⊎_elim, ℕ, List, [], ◌∷◌, ◌++◌, Bool, true, false, not, cond, Option, Some, None, refl, sym, ap, subst, ◌∙◌, arith, true≢false}
use Rattle.pb_semantics.specs.Data.{Fields}
use Rattle.pb_semantics.specs.Keeps.{is_among}
use Rattle.pb_semantics.specs.Below.{are_among}
use Rattle.pb_semantics.proofs.Bools.{untrue, and-right}
use Rattle.pb_semantics.proofs.Hosts.{among_up}
use Rattle.pb_language.specs.Expression.{Name}
use Rattle.pb_language.specs.Scope.{View, view_of, Later, later_of}
use Rattle.pb_language.specs.Judgement.{Exit}
use Rattle.pb_language.specs.Walk.{walk}
use Rattle.pb_language.specs.Program.{Inventory, Play, Program, Batch, batches_of, all_batches, setting_of}
use Rattle.pb_language.specs.Tables.{first_laters, other_laters, plays_walked, plays_calls, row_calls}
use Rattle.pb_language.specs.Theorem.{host_names}
use Rattle.pb_language.specs.Give.{Answer}
use Rattle.pb_language.specs.Machine.{Event, start, give, turn, stop, over, gone, begins, Stage, waits, runs, Host, State, still_active, host_at, is_out, can_start, is_idle, all_idle, of_host, is_possible, enabled, on_start, on_give, any_names, with_batches, on_host, happened, step, run_from}
use Rattle.pb_language.specs.Wells.{WellExit}
use Rattle.pb_language.proofs.Claims.{StartClaim, GiveClaim, AfterClaim}
use Rattle.pb_language.proofs.Ways.{walk_well}
use Rattle.pb_language.proofs.Seen.{idle_at, at_among, total}
use Rattle.pb_language.proofs.Positions.{ExitModels, in_any, walked, after_play, future, whole, StageFine, owes}
use Rattle.pb_language.proofs.Runs.{Fixed, Kept, BatchFine, HostsFine, start_fine, give_fine}
use Rattle.pb_language.proofs.Turns.{If, AllApart, AllWithin, CutFine, PlansFine, after_fine, PlayGood, Good, Ahead, Idle, idle_owes, Member, batch_begun}

module _ (inventory : Inventory) (views : List View) (fixed : Fixed inventory views) (start_claim : StartClaim) (give_claim : GiveClaim) (after_claim : AfterClaim) (limit : ℕ) where
  -- where a run stands that hasn't ended
  pub record Placed (s : State) : Type 0 where
    pub play : Play
    pub laters : List Later
    pub batch : List Name
    pub others : List (List Name)
    pub exits : Name → Exit
    pub plays : Program
    pub more : List (List Later)
    pub shape : s.batches ≡ record { play = play; members = batch } ∷ (batches_of play others ++ all_batches plays)
    pub batch_fine : BatchFine inventory views fixed start_claim give_claim limit play laters batch others exits plays more
    pub apart : AllApart others
    pub within : AllWithin play.hosts others
    pub ahead : Ahead inventory views fixed start_claim give_claim after_claim limit exits (play ∷ plays) (laters ∷ more)
    pub plans : PlansFine plays more
    pub hosts : HostsFine inventory views fixed start_claim give_claim limit play laters batch others exits plays more s

  pub record Fine (s : State) : Type 0 where
    pub kept : Kept inventory views s
    pub placed : ((s.batches ≡ []) × (s.handed ≤ limit)) ⊎ Placed s

  if_true : (q : Bool) (A B : Type 0) → q ≡ true → If q A B → A
  if_true true A B e x = x
  if_true false A B e x = untrue e

  if_false : (q : Bool) (A B : Type 0) → q ≡ false → If q A B → B
  if_false true A B e x = absurd (true≢false e)
  if_false false A B e x = x

  module _ (p : Play) (l : List Later) (exits : Name → Exit) (ps : Program) (ls : List (List Later)) where
    good_here : (n : Name) → Ahead inventory views fixed start_claim give_claim after_claim limit exits (p ∷ ps) (l ∷ ls) → is_among n (host_names inventory.hosts) ≡ true → is_among n p.hosts ≡ true
        → PlayGood inventory views fixed start_claim give_claim after_claim limit p l n (exits n) × Good inventory views fixed start_claim give_claim after_claim limit n (walked views inventory p l exits ps ls n).well ps ls
    good_here n a i m = if_true (is_among n p.hosts) _ _ m (a.good n i)

    -- a host of a batch of the play
    member_of_batch : (b : List Name) (bs : List (List Name)) → ((n : Name) → is_among n b ≡ true → in_any n bs ≡ false) → are_among b p.hosts ≡ true → Ahead inventory views fixed start_claim give_claim after_claim limit exits (p ∷ ps) (l ∷ ls)
        → (n : Name) → is_among n (host_names inventory.hosts) ≡ true → is_among n b ≡ true → Member inventory views fixed start_claim give_claim after_claim limit p l exits ps ls b bs n
    member_of_batch b bs apart within a n i here =
        let mine = among_up n b p.hosts within here in
        record { apart = apart n here; mine = mine; play = (good_here n a i mine).0; well = a.well n i }

    after_at : (q : Bool) (n : Name) → is_among n p.hosts ≡ q → after_play views inventory p l exits ps ls n ≡ cond q (walked views inventory p l exits ps ls n).well (exits n)
    after_at q n e = rw e refl

    ahead_well : (q : Bool) (n : Name) → Ahead inventory views fixed start_claim give_claim after_claim limit exits (p ∷ ps) (l ∷ ls) → is_among n (host_names inventory.hosts) ≡ true → is_among n p.hosts ≡ q
        → WellExit (cond q (walked views inventory p l exits ps ls n).well (exits n))
    ahead_well true n a i e =
        let g = (good_here n a i e).0 in
        (walk_well (setting_of inventory p views l n) (view_of n views) (later_of n l) _ (after_fine inventory views fixed start_claim give_claim after_claim limit p l n) p.row (exits n) (a.well n i) g.visits).0
    ahead_well false n a i e = a.well n i

    ahead_good : (q : Bool) (n : Name) → Ahead inventory views fixed start_claim give_claim after_claim limit exits (p ∷ ps) (l ∷ ls) → is_among n (host_names inventory.hosts) ≡ true → is_among n p.hosts ≡ q
        → Good inventory views fixed start_claim give_claim after_claim limit n (cond q (walked views inventory p l exits ps ls n).well (exits n)) ps ls
    ahead_good true n a i e = (good_here n a i e).1
    ahead_good false n a i e = if_false (is_among n p.hosts) _ _ e (a.good n i)

    -- what is ahead when the play is over
    pub next_ahead : Ahead inventory views fixed start_claim give_claim after_claim limit exits (p ∷ ps) (l ∷ ls) → Ahead inventory views fixed start_claim give_claim after_claim limit (after_play views inventory p l exits ps ls) ps ls
    next_ahead a = record {
      well = λ n i. ahead_well (is_among n p.hosts) n a i refl;
      good = λ n i. ahead_good (is_among n p.hosts) n a i refl;
    }

    plays_calls_at : (q : Bool) (n : Name) (e : Exit) → is_among n p.hosts ≡ q → plays_calls (plays_walked inventory views n e (p ∷ ps) (l ∷ ls))
        ≡ cond q (row_calls (walk (setting_of inventory p views l n) p.row e).visits p.row + plays_calls (plays_walked inventory views n (walk (setting_of inventory p views l n) p.row e).well ps ls)) (plays_calls (plays_walked inventory views n e ps ls))
    plays_calls_at true n e i = rw i refl
    plays_calls_at false n e i = rw i refl

    whole_at : (q : Bool) (n : Name) → is_among n p.hosts ≡ q → cond q (whole views inventory p l exits ps ls n) (future views inventory p l exits ps ls n) ≤ plays_calls (plays_walked inventory views n (exits n) (p ∷ ps) (l ∷ ls))
    whole_at true n i = rw (plays_calls_at true n (exits n) i, i) (omega arith)
    whole_at false n i = rw (plays_calls_at false n (exits n) i, i) (omega arith)

  -- an idle host before some plays
  abbrev pub Resting : (Name → Exit) → Name → Fields → Stage → Type 0
  Resting exits n vars (waits over) = ExitModels vars (exits n)
  Resting exits n vars (waits gone) = Unit {0}
  Resting exits n vars (waits (begins t x y)) = false ≡ true
  Resting exits n vars (runs t tries passes x y) = false ≡ true

  abbrev pub resting_owes : (Name → Exit) → Program → List (List Later) → Name → Stage → ℕ
  resting_owes exits ps ls n (waits over) = plays_calls (plays_walked inventory views n (exits n) ps ls)
  resting_owes exits ps ls n g = 0

  resting_same : (exits exits' : Name → Exit) → ((n : Name) → exits' n ≡ exits n) → (n : Name) (vars : Fields) (z : Stage) → Resting exits n vars z → Resting exits' n vars z
  resting_same exits exits' same n vars (waits over) r = rw (same n) r
  resting_same exits exits' same n vars (waits gone) r = tt
  resting_same exits exits' same n vars (waits (begins t x y)) r = r
  resting_same exits exits' same n vars (runs t tries passes x y) r = r

  owes_same : (p : Play) (l : List Later) (exits : Name → Exit) (ps : Program) (ls : List (List Later)) → ((n : Name) → is_among n p.hosts ≡ false) → ((n : Name) → after_play views inventory p l exits ps ls n ≡ exits n) → (n : Name) (z : Stage)
      → resting_owes (after_play views inventory p l exits ps ls) ps ls n z ≤ resting_owes exits (p ∷ ps) (l ∷ ls) n z
  owes_same p l exits ps ls away same n (waits over) = rw (plays_calls_at p l exits ps ls false n (exits n) (away n), same n) (omega arith)
  owes_same p l exits ps ls away same n (waits gone) = omega arith
  owes_same p l exits ps ls away same n (waits (begins t x y)) = omega arith
  owes_same p l exits ps ls away same n (runs t tries passes x y) = omega arith

  idle_lower : (p : Play) (l : List Later) (exits : Name → Exit) (ps : Program) (ls : List (List Later)) (bs : List (List Name)) → ((n : Name) → is_among n p.hosts ≡ in_any n bs) → (n : Name) (z : Stage)
      → idle_owes inventory views fixed start_claim give_claim after_claim limit p l exits ps ls bs n z ≤ resting_owes exits (p ∷ ps) (l ∷ ls) n z
  idle_lower p l exits ps ls bs parts n (waits over) = whole_at p l exits ps ls (in_any n bs) n (parts n)
  idle_lower p l exits ps ls bs parts n (waits gone) = omega arith
  idle_lower p l exits ps ls bs parts n (waits (begins t x y)) = omega arith
  idle_lower p l exits ps ls bs parts n (runs t tries passes x y) = omega arith

  exit_kept : (e f : Exit) (vars : Fields) → e ≡ f → ExitModels vars f → ExitModels vars e
  exit_kept e f vars i m = rw i m

  resting_idle : (p : Play) (l : List Later) (exits : Name → Exit) (ps : Program) (ls : List (List Later)) (bs : List (List Name)) → ((n : Name) → is_among n p.hosts ≡ in_any n bs) → (n : Name) (vars : Fields) (z : Stage) → Resting exits n vars z
      → Idle inventory views fixed start_claim give_claim after_claim limit p l exits ps ls bs n vars z
  resting_idle p l exits ps ls bs parts n vars (waits over) r = (λ i. r, λ i. exit_kept (after_play views inventory p l exits ps ls n) (exits n) vars (after_at p l exits ps ls false n (parts n ∙ i)) r)
  resting_idle p l exits ps ls bs parts n vars (waits gone) r = tt
  resting_idle p l exits ps ls bs parts n vars (waits (begins t x y)) r = r
  resting_idle p l exits ps ls bs parts n vars (runs t tries passes x y) r = r

  total_lower : (f g : Name → Stage → ℕ) (hs : List Host) → ((n : Name) (z : Stage) → f n z ≤ g n z) → total f hs ≤ total g hs
  total_lower f g [] h = omega arith
  total_lower f g (x ∷ hs) h = let i = h x.name x.stage in let j = total_lower f g hs h in omega (arith, i, j)

  ended : (s : State) → Kept inventory views s → s.handed ≤ limit → Fine (record s { batches = [] })
  ended s kept within = record { kept = record { same = kept.same; names = kept.names; fresh = kept.fresh; models = kept.models }; placed = inl (refl, within) }

  -- a play begins with its first batch
  play_begun : (p : Play) (ps : Program) (ls : List (List Later)) (exits : Name → Exit) (s : State) (bb : List (List Name)) → p.batches ≡ bb → CutFine p → (p.is_linear ≡ false → first_laters ls ≡ []) → PlansFine ps (other_laters ls) → Kept inventory views s
      → Ahead inventory views fixed start_claim give_claim after_claim limit exits (p ∷ ps) (first_laters ls ∷ other_laters ls) → ((k : ℕ) (h : Host) → host_at k s.hosts ≡ Some h → Resting exits h.name h.variables h.stage)
      → s.handed + total (resting_owes exits (p ∷ ps) ls) s.hosts ≤ limit
      → (((exits' : Name → Exit) → Ahead inventory views fixed start_claim give_claim after_claim limit exits' ps (other_laters ls) → ((k : ℕ) (h : Host) → host_at k s.hosts ≡ Some h → Resting exits' h.name h.variables h.stage)
      → s.handed + total (resting_owes exits' ps (other_laters ls)) s.hosts ≤ limit → Fine (with_batches s (all_batches ps)))) → Fine (with_batches s (batches_of p bb ++ all_batches ps))
  play_begun p ps ls exits s [] eq cut free plans kept ahead resting within skip =
      let l = first_laters ls in
      let away : (n : Name) → is_among n p.hosts ≡ false = λ n. cut.parts n ∙ ap (in_any n) eq in
      let same : (n : Name) → after_play views inventory p l exits ps (other_laters ls) n ≡ exits n = λ n. after_at p l exits ps (other_laters ls) false n (away n) in
      let stays : (n : Name) (vars : Fields) (z : Stage) → Resting exits n vars z → Resting (after_play views inventory p l exits ps (other_laters ls)) n vars z = resting_same exits (after_play views inventory p l exits ps (other_laters ls)) same in
      let lower : (n : Name) (z : Stage) → resting_owes (after_play views inventory p l exits ps (other_laters ls)) ps (other_laters ls) n z ≤ resting_owes exits (p ∷ ps) ls n z = owes_same p l exits ps (other_laters ls) away same in
      let t = total_lower (resting_owes (after_play views inventory p l exits ps (other_laters ls)) ps (other_laters ls)) (resting_owes exits (p ∷ ps) ls) s.hosts lower in
      skip (after_play views inventory p l exits ps (other_laters ls)) (next_ahead p l exits ps (other_laters ls) ahead) (λ k h e. stays h.name h.variables h.stage (resting k h e)) (omega (arith, t, within))
  play_begun p ps ls exits s (b ∷ bs) eq cut free plans kept ahead resting within skip =
      let l = first_laters ls in
      let parts : (n : Name) → is_among n p.hosts ≡ in_any n (b ∷ bs) = λ n. cut.parts n ∙ ap (in_any n) eq in
      let apart : AllApart (b ∷ bs) = subst AllApart eq cut.apart in
      let inside : AllWithin p.hosts (b ∷ bs) = subst (AllWithin p.hosts) eq cut.within in
      let t = total_lower (idle_owes inventory views fixed start_claim give_claim after_claim limit p l exits ps (other_laters ls) (b ∷ bs)) (resting_owes exits (p ∷ ps) ls) s.hosts (idle_lower p l exits ps (other_laters ls) (b ∷ bs) parts) in
      let bt = record { play = p; members = b } ∷ (batches_of p bs ++ all_batches ps) in
      let z = batch_begun inventory views fixed start_claim give_claim after_claim limit p l exits ps (other_laters ls) b bs s bt kept
      (λ k h e. resting_idle p l exits ps (other_laters ls) (b ∷ bs) parts h.name h.variables h.stage (resting k h e))
      (λ k h e here. member_of_batch p l exits ps (other_laters ls) b bs apart.0 inside.0 ahead h.name (subst (λ ns. is_among h.name ns ≡ true) kept.names (at_among k s.hosts h e)) here)
      (omega (arith, t, within)) in
      record {
        kept = z.0;
        placed = inr (record {
          play = p;
          laters = l;
          batch = b;
          others = bs;
          exits = exits;
          plays = ps;
          more = other_laters ls;
          shape = refl;
          batch_fine = record { apart = apart.0; members = inside.0; few = inside.1; free = free };
          apart = apart.1;
          within = inside.2;
          ahead = ahead;
          plans = plans;
          hosts = z.1;
        });
      }

  -- the plays that follow begin with the first of them that has a batch
  pub plays_begun : (ps : Program) (ls : List (List Later)) (exits : Name → Exit) (s : State) → PlansFine ps ls → Kept inventory views s → Ahead inventory views fixed start_claim give_claim after_claim limit exits ps ls
      → ((k : ℕ) (h : Host) → host_at k s.hosts ≡ Some h → Resting exits h.name h.variables h.stage) → s.handed + total (resting_owes exits ps ls) s.hosts ≤ limit → Fine (with_batches s (all_batches ps))
  plays_begun [] ls exits s plans kept ahead resting within = ended s kept (omega (arith, within))
  plays_begun (p ∷ ps) ls exits s plans kept ahead resting within =
      play_begun p ps ls exits s p.batches refl plans.0 plans.1 plans.2 kept (record { well = ahead.well; good = ahead.good }) resting within (λ exits' a r w. plays_begun ps (other_laters ls) exits' s plans.2 kept a r w)

  stage_idle : (p : Play) (l : List Later) (exits : Name → Exit) (ps : Program) (ls : List (List Later)) (b : List Name) (bs : List (List Name)) (n : Name) (vars : Fields) (z : Stage) → is_idle z ≡ true → StageFine views inventory p l exits ps ls b bs n vars z
      → Idle inventory views fixed start_claim give_claim after_claim limit p l exits ps ls bs n vars z
  stage_idle p l exits ps ls b bs n vars (waits over) i f = (f.before, f.after)
  stage_idle p l exits ps ls b bs n vars (waits gone) i f = tt
  stage_idle p l exits ps ls b bs n vars (waits (begins t x y)) i f = i
  stage_idle p l exits ps ls b bs n vars (runs t tries passes x y) i f = i

  idle_resting : (p : Play) (l : List Later) (exits : Name → Exit) (ps : Program) (ls : List (List Later)) (n : Name) (vars : Fields) (z : Stage) → Idle inventory views fixed start_claim give_claim after_claim limit p l exits ps ls [] n vars z
      → Resting (after_play views inventory p l exits ps ls) n vars z
  idle_resting p l exits ps ls n vars (waits over) r = r.1 refl
  idle_resting p l exits ps ls n vars (waits gone) r = tt
  idle_resting p l exits ps ls n vars (waits (begins t x y)) r = r
  idle_resting p l exits ps ls n vars (runs t tries passes x y) r = r

  idle_no_more : (p : Play) (l : List Later) (exits : Name → Exit) (ps : Program) (ls : List (List Later)) (b : List Name) (bs : List (List Name)) (n : Name) (z : Stage)
      → idle_owes inventory views fixed start_claim give_claim after_claim limit p l exits ps ls bs n z ≤ owes views inventory p l exits ps ls b bs n z
  idle_no_more p l exits ps ls b bs n (waits over) = omega arith
  idle_no_more p l exits ps ls b bs n (waits gone) = omega arith
  idle_no_more p l exits ps ls b bs n (waits (begins t x y)) = omega arith
  idle_no_more p l exits ps ls b bs n (runs t tries passes x y) = omega arith

  rest_no_more : (p : Play) (l : List Later) (exits : Name → Exit) (ps : Program) (ls : List (List Later)) (b : List Name) (n : Name) (z : Stage)
      → resting_owes (after_play views inventory p l exits ps ls) ps ls n z ≤ owes views inventory p l exits ps ls b [] n z
  rest_no_more p l exits ps ls b n (waits over) = omega arith
  rest_no_more p l exits ps ls b n (waits gone) = omega arith
  rest_no_more p l exits ps ls b n (waits (begins t x y)) = omega arith
  rest_no_more p l exits ps ls b n (runs t tries passes x y) = omega arith

  module _ (s : State) (kept : Kept inventory views s) (pl : Placed s) where
    idle_all : all_idle s.hosts ≡ true → (k : ℕ) (h : Host) → host_at k s.hosts ≡ Some h → Idle inventory views fixed start_claim give_claim after_claim limit pl.play pl.laters pl.exits pl.plays pl.more pl.others h.name h.variables h.stage
    idle_all i k h e = stage_idle pl.play pl.laters pl.exits pl.plays pl.more pl.batch pl.others h.name h.variables h.stage (idle_at k s.hosts h i e) (pl.hosts.stands k h e)

    next_batch : (bs : List (List Name)) → pl.others ≡ bs → all_idle s.hosts ≡ true → Fine (with_batches s (batches_of pl.play bs ++ all_batches pl.plays))
    next_batch [] eq i =
        let idle : (k : ℕ) (h : Host) → host_at k s.hosts ≡ Some h → Idle inventory views fixed start_claim give_claim after_claim limit pl.play pl.laters pl.exits pl.plays pl.more [] h.name h.variables h.stage
        = λ k h e. subst (λ os. Idle inventory views fixed start_claim give_claim after_claim limit pl.play pl.laters pl.exits pl.plays pl.more os h.name h.variables h.stage) eq (idle_all i k h e) in
        let within : s.handed + total (owes views inventory pl.play pl.laters pl.exits pl.plays pl.more pl.batch []) s.hosts ≤ limit
        = subst (λ os. s.handed + total (owes views inventory pl.play pl.laters pl.exits pl.plays pl.more pl.batch os) s.hosts ≤ limit) eq pl.hosts.within in
        let t = total_lower (resting_owes (after_play views inventory pl.play pl.laters pl.exits pl.plays pl.more) pl.plays pl.more) (owes views inventory pl.play pl.laters pl.exits pl.plays pl.more pl.batch []) s.hosts (rest_no_more pl.play pl.laters pl.exits pl.plays pl.more pl.batch) in
        plays_begun pl.plays pl.more (after_play views inventory pl.play pl.laters pl.exits pl.plays pl.more) s pl.plans kept (next_ahead pl.play pl.laters pl.exits pl.plays pl.more pl.ahead)
        (λ k h e. idle_resting pl.play pl.laters pl.exits pl.plays pl.more h.name h.variables h.stage (idle k h e)) (omega (arith, t, within))
    next_batch (b ∷ bs) eq i =
        let idle : (k : ℕ) (h : Host) → host_at k s.hosts ≡ Some h → Idle inventory views fixed start_claim give_claim after_claim limit pl.play pl.laters pl.exits pl.plays pl.more (b ∷ bs) h.name h.variables h.stage
        = λ k h e. subst (λ os. Idle inventory views fixed start_claim give_claim after_claim limit pl.play pl.laters pl.exits pl.plays pl.more os h.name h.variables h.stage) eq (idle_all i k h e) in
        let within : s.handed + total (owes views inventory pl.play pl.laters pl.exits pl.plays pl.more pl.batch (b ∷ bs)) s.hosts ≤ limit
        = subst (λ os. s.handed + total (owes views inventory pl.play pl.laters pl.exits pl.plays pl.more pl.batch os) s.hosts ≤ limit) eq pl.hosts.within in
        let apart : AllApart (b ∷ bs) = subst AllApart eq pl.apart in
        let inside : AllWithin pl.play.hosts (b ∷ bs) = subst (AllWithin pl.play.hosts) eq pl.within in
        let t = total_lower (idle_owes inventory views fixed start_claim give_claim after_claim limit pl.play pl.laters pl.exits pl.plays pl.more (b ∷ bs)) (owes views inventory pl.play pl.laters pl.exits pl.plays pl.more pl.batch (b ∷ bs)) s.hosts (idle_no_more pl.play pl.laters pl.exits pl.plays pl.more pl.batch (b ∷ bs)) in
        let bt = record { play = pl.play; members = b } ∷ (batches_of pl.play bs ++ all_batches pl.plays) in
        let z = batch_begun inventory views fixed start_claim give_claim after_claim limit pl.play pl.laters pl.exits pl.plays pl.more b bs s bt kept idle
        (λ k h e here. member_of_batch pl.play pl.laters pl.exits pl.plays pl.more b bs apart.0 inside.0 pl.ahead h.name (subst (λ ns. is_among h.name ns ≡ true) kept.names (at_among k s.hosts h e)) here)
        (omega (arith, t, within)) in
        record {
          kept = z.0;
          placed = inr (record {
            play = pl.play;
            laters = pl.laters;
            batch = b;
            others = bs;
            exits = pl.exits;
            plays = pl.plays;
            more = pl.more;
            shape = refl;
            batch_fine = record { apart = apart.0; members = inside.0; few = inside.1; free = pl.batch_fine.free };
            apart = apart.1;
            within = inside.2;
            ahead = pl.ahead;
            plans = pl.plans;
            hosts = z.1;
          });
        }

    abbrev batch_now : Batch
    batch_now = record { play = pl.play; members = pl.batch }

    abbrev batches_left : List Batch
    batches_left = batches_of pl.play pl.others ++ all_batches pl.plays

    turned : (q : Bool) → all_idle s.hosts ≡ true → Fine (with_batches s (cond q batches_left []))
    turned true i = next_batch pl.others refl i
    turned false i = ended s kept (let w = pl.hosts.within in omega (arith, w))

    stepped : (z : State) → Kept inventory views z × HostsFine inventory views fixed start_claim give_claim limit pl.play pl.laters pl.batch pl.others pl.exits pl.plays pl.more z × (z.batches ≡ s.batches) → Fine z
    stepped z f = record {
      kept = f.0;
      placed = inr (record {
        play = pl.play;
        laters = pl.laters;
        batch = pl.batch;
        others = pl.others;
        exits = pl.exits;
        plays = pl.plays;
        more = pl.more;
        shape = f.2 ∙ pl.shape;
        batch_fine = pl.batch_fine;
        apart = pl.apart;
        within = pl.within;
        ahead = pl.ahead;
        plans = pl.plans;
        hosts = f.1;
      });
    }

    started : (k : ℕ) (o : Option Host) → host_at k s.hosts ≡ o → of_host o (λ h. can_start s batch_now h.stage) ≡ true → Fine (on_host s o (λ h. on_start s batch_now k h h.stage))
    started k None e c = untrue c
    started k (Some h) e c =
        stepped (on_start s batch_now k h h.stage)
        (start_fine inventory views fixed start_claim give_claim limit pl.play pl.laters pl.batch pl.others pl.exits pl.plays pl.more pl.batch_fine s kept pl.hosts k h h.stage e refl (pl.hosts.stands k h e) c)

    given : (k : ℕ) (xs : List Answer) (o : Option Host) → host_at k s.hosts ≡ o → of_host o (λ h. is_out h.stage) ≡ true → Fine (on_host s o (λ h. on_give s batch_now k h xs h.stage))
    given k xs None e c = untrue c
    given k xs (Some h) e c =
        stepped (on_give s batch_now k h xs h.stage)
        (give_fine inventory views fixed start_claim give_claim limit pl.play pl.laters pl.batch pl.others pl.exits pl.plays pl.more pl.batch_fine s kept pl.hosts k h h.stage xs e refl (pl.hosts.stands k h e) c)

    placed_step : (e : Event) → is_possible s (batch_now ∷ batches_left) e ≡ true → Fine (happened s (batch_now ∷ batches_left) e)
    placed_step (start k) c = started k (host_at k s.hosts) refl c
    placed_step (give k xs) c = given k xs (host_at k s.hosts) refl c
    placed_step turn c = turned (any_names (still_active s.hosts pl.batch)) c
    placed_step stop c =
        stepped (record s { is_stopped = true })
        (record { same = kept.same; names = kept.names; fresh = kept.fresh; models = kept.models }, record { stands = pl.hosts.stands; within = pl.hosts.within }, refl)

  possible_step : (s : State) → Fine s → (e : Event) → is_possible s s.batches e ≡ true → Fine (happened s s.batches e)
  possible_step s f e =
      ⊎_elim (λ x. subst (λ bt. is_possible s bt e ≡ true → Fine (happened s bt e)) (sym x.0) (λ c. untrue c))
      (λ pl. subst (λ bt. is_possible s bt e ≡ true → Fine (happened s bt e)) (sym pl.shape) (placed_step s f.kept pl e)) f.placed

  step_at : (q : Bool) (s : State) (e : Event) → enabled s e ≡ q → Fine s → Fine (cond q (happened s s.batches e) s)
  step_at true s e i f = possible_step s f e (and-right (not s.is_stopped) (is_possible s s.batches e) i)
  step_at false s e i f = f

  pub step_fine : (s : State) (e : Event) → Fine s → Fine (step s e)
  step_fine s e f = step_at (enabled s e) s e refl f

  pub run_fine : (es : List Event) (s : State) → Fine s → Fine (run_from s es)
  run_fine [] s f = f
  run_fine (e ∷ es) s f = run_fine es (step s e) (step_fine s e f)

  -- what was handed out stays within the limit
  pub fine_within : (s : State) → Fine s → s.handed ≤ limit
  fine_within s f = ⊎_elim (λ x. x.1) (λ pl. let w = pl.hosts.within in omega (arith, w)) f.placed
