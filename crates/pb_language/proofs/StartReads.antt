-- In a run of an accepted book what a Give evaluates is the same in the world of the Start.
use Rattle.std.proofs.Common.{◌≡◌, ⊎_elim, ℕ, zero, suc, nat_eq, List, [], ◌∷◌, ◌++◌, Bool, true, false, not, ◌&&◌, ◌||◌, cond, Option, Some, None, refl, sym, ap, subst, ◌∙◌, true≢false}
use Rattle.pb_semantics.specs.Keeps.{is_among}
use Rattle.pb_semantics.proofs.Bools.{untrue, and-left, and-right, and-both, not-true, neither-left, neither-right}
use Rattle.pb_language.specs.Expression.{Name}
use Rattle.pb_language.specs.World.{HostVariables}
use Rattle.pb_language.specs.Task.{Task, Handlers, no_handlers, handler, Row, end, task, flush, section, block}
use Rattle.pb_language.specs.Rest.{Rest, done, left, next, ask, rescue, hold, release, flush_rest, rest_of}
use Rattle.pb_language.specs.Start.{Pass, Plan, planned, halted, plan_of}
use Rattle.pb_language.specs.Give.{Answer, Admitted, admitted, breached, unreached, admit_passes, Ended, Results, results_are, no_results, end_all, asks_again, last_attempts, any_changed, any_failed}
use Rattle.pb_language.specs.Notify.{Notified, handlers_are, names_nothing}
use Rattle.pb_language.specs.Plays.{program_of}
use Rattle.pb_language.specs.Program.{Inventory, Play, Program, Batch, batches_of, all_batches}
use Rattle.pb_language.specs.OwnReads.{keyword_reads_others, until_reads_others, with_job, is_out_at, gives_to, stays_out, GivesReadTheirStart}
use Rattle.pb_language.specs.Machine.{on_again, on_ended, Event, start, give, turn, stop, over, gone, begins, Stage, waits, runs, Host, State, is_marked, unmarked, outermost, innermost, settled, is_on, world_of, host_at, put_host, is_out, can_start, of_host, is_possible, enabled, stuck_state, on_plan, on_start, notified_by, after_task, way_on, on_notified, on_results, on_admitted, on_give, any_names, still_active, with_batches, on_host, happened, step, empty_recap, opening_hosts, opening, run_from}
use Rattle.pb_language.proofs.OwnReads.{same_results, same_at_give}
use Rattle.pb_language.proofs.Planned.{start_hands_out}
use Rattle.pb_language.proofs.Ruled.{row_has, program_has, handlers_have, reads_alone, program_alone}
use Rattle.pb_language.proofs.Same.{same_number}
use Rattle.pb_language.proofs.Seen.{put_at, put_here, put_apart, host_begun, idle_at}

-- a host before its next task has no job out
asked_waits : (q : Bool) (x y : Host) → is_out x.stage ≡ false → is_out y.stage ≡ false → is_out (cond q x y).stage ≡ false
asked_waits true x y h i = h
asked_waits false x y h i = i

settled_waits : (h : Host) (r : Rest) → is_out (settled h r).stage ≡ false
settled_waits h done = refl
settled_waits h left = refl
settled_waits h (next t a b) = refl
settled_waits h (ask n a b) = asked_waits (is_marked n h.marks) (settled (record h { marks = unmarked n h.marks }) a) (settled h b) (settled_waits (record h { marks = unmarked n h.marks }) a) (settled_waits h b)
settled_waits h (rescue d r) = settled_waits (record h { rescues = h.failure ∷ outermost d h.rescues }) r
settled_waits h (hold m r) = settled_waits (record h { holds = h.failure ∷ outermost m h.holds }) r
settled_waits h (release m r) = settled_waits (record h { failure = innermost (outermost (suc m) h.holds) }) r

-- what is so of each task of a play's row is so of each that its hosts come to
module _ (f : Task → Bool) where
  abbrev rest_has : Rest → Bool
  rest_has done = true
  rest_has left = true
  rest_has (next t a b) = f t && (rest_has a && rest_has b)
  rest_has (ask n a b) = rest_has a && rest_has b
  rest_has (rescue d r) = rest_has r
  rest_has (hold m r) = rest_has r
  rest_has (release m r) = rest_has r

  flush_has : (hs : Handlers) (a : Rest) → handlers_have f hs ≡ true → rest_has a ≡ true → rest_has (flush_rest hs a) ≡ true
  flush_has no_handlers a h i = i
  flush_has (handler n t hs) a h i =
      let rest = flush_has hs a (and-right (f t) (handlers_have f hs) h) i in
      and-both (f t && (rest_has (flush_rest hs a) && true)) (rest_has (flush_rest hs a))
      (and-both (f t) (rest_has (flush_rest hs a) && true) (and-left (f t) (handlers_have f hs) h) (and-both (rest_has (flush_rest hs a)) true rest refl)) rest

  abbrev has : Row → Bool
  has row = row_has f (handlers_have f) row

  saved_has : (q : Bool) (d : ℕ) (a b : Rest) (body rescued : Rest → Rest → Rest) → ((c : Rest) → rest_has a ≡ true → rest_has c ≡ true → rest_has (body a c) ≡ true) → ((c : Rest) → rest_has a ≡ true → rest_has c ≡ true → rest_has (rescued a c) ≡ true)
      → rest_has a ≡ true → rest_has b ≡ true → rest_has (body a (cond q (rescue d (rescued a b)) b)) ≡ true
  saved_has true d a b body rescued f g i j = f (rescue d (rescued a b)) i (g b i j)
  saved_has false d a b body rescued f g i j = f b i j

  rest_of_has : (row : Row) (m : ℕ) (a b : Rest) → has row ≡ true → rest_has a ≡ true → rest_has b ≡ true → rest_has (rest_of row m a b) ≡ true
  rest_of_has end m a b h i j = i
  rest_of_has (task t row) m a b h i j =
      and-both (f t) (rest_has (rest_of row m a b) && rest_has b) (and-left (f t) (has row) h) (and-both (rest_has (rest_of row m a b)) (rest_has b) (rest_of_has row m a b (and-right (f t) (has row) h) i j) j)
  rest_of_has (flush hs row) m a b h i j =
      flush_has hs (rest_of row m a b) (and-left (handlers_have f hs) (has row) h) (rest_of_has row m a b (and-right (handlers_have f hs) (has row) h) i j)
  rest_of_has (section body hs row) m a b h i j =
      let rest = and-right (has body) (handlers_have f hs && has row) h in
      let handlers = and-left (handlers_have f hs) (has row) rest in
      let after = rest_of_has row m a b (and-right (handlers_have f hs) (has row) rest) i j in
      rest_of_has body m (flush_rest hs (rest_of row m a b)) (flush_rest hs left) (and-left (has body) (handlers_have f hs && has row) h) (flush_has hs (rest_of row m a b) handlers after) (flush_has hs left handlers refl)
  rest_of_has (block d body saves rescued always row) m a b h i j =
      let first = and-right (has body) (has rescued && (has always && has row)) h in
      let second = and-right (has rescued) (has always && has row) first in
      let well = rest_of always m (rest_of row m a b) b in
      let hurt = hold m (rest_of always (suc m) (release m b) b) in
      let ends = and-left (has always) (has row) second in
      let going = rest_of_has always m (rest_of row m a b) b ends (rest_of_has row m a b (and-right (has always) (has row) second) i j) j in
      let failing = rest_of_has always (suc m) (release m b) b ends j j in
      saved_has saves d well hurt (rest_of body m) (rest_of rescued m) (λ c i j. rest_of_has body m well c (and-left (has body) (has rescued && (has always && has row)) h) i j)
      (λ c i j. rest_of_has rescued m well c (and-left (has rescued) (has always && has row) first) i j) going failing

  abbrev stage_has : Stage → Bool
  stage_has (waits over) = true
  stage_has (waits gone) = true
  stage_has (waits (begins t a b)) = f t && (rest_has a && rest_has b)
  stage_has (runs t tries ps a b) = f t && (rest_has a && rest_has b)

  asked_has : (q : Bool) (x y : Host) → stage_has x.stage ≡ true → stage_has y.stage ≡ true → stage_has (cond q x y).stage ≡ true
  asked_has true x y h i = h
  asked_has false x y h i = i

  settled_has : (h : Host) (r : Rest) → rest_has r ≡ true → stage_has (settled h r).stage ≡ true
  settled_has h done i = refl
  settled_has h left i = refl
  settled_has h (next t a b) i = i
  settled_has h (ask n a b) i =
      asked_has (is_marked n h.marks) (settled (record h { marks = unmarked n h.marks }) a) (settled h b) (settled_has (record h { marks = unmarked n h.marks }) a (and-left (rest_has a) (rest_has b) i)) (settled_has h b (and-right (rest_has a) (rest_has b) i))
  settled_has h (rescue d r) i = settled_has (record h { rescues = h.failure ∷ outermost d h.rescues }) r i
  settled_has h (hold m r) i = settled_has (record h { holds = h.failure ∷ outermost m h.holds }) r i
  settled_has h (release m r) i = settled_has (record h { failure = innermost (outermost (suc m) h.holds) }) r i

  abbrev batches_have : List Batch → Bool
  batches_have [] = true
  batches_have (b ∷ bs) = has b.play.row && batches_have bs

  record Only (s : State) : Type 0 where
    batches : batches_have s.batches ≡ true
    hosts : (k : ℕ) (h : Host) → host_at k s.hosts ≡ Some h → stage_has h.stage ≡ true

  -- what a Start or a Give makes of a state: at most one host is another
  data Becomes (s : State) (k : ℕ) : State → Type 0 where
    same : Becomes s k s
    marked : Becomes s k (stuck_state s)
    put : (x : Host) (c : ℕ) → stage_has x.stage ≡ true → Becomes s k (record s { hosts = put_host k x s.hosts; handed = c })

  plan_becomes : (s : State) (k : ℕ) (h : Host) (t : Task) (a b : Rest) (p : Plan) → f t && (rest_has a && rest_has b) ≡ true → Becomes s k (on_plan s k h t a b p)
  plan_becomes s k h t a b (halted y) i = marked
  plan_becomes s k h t a b (planned ps) i = put (record h { stage = runs t 0 ps a b }) _ i

  start_becomes : (s : State) (b : Batch) (k : ℕ) (h : Host) (g : Stage) → stage_has g ≡ true → Becomes s k (on_start s b k h g)
  start_becomes s b k h (waits over) i = same
  start_becomes s b k h (waits gone) i = same
  start_becomes s b k h (waits (begins t x y)) i = plan_becomes s k h t x y (plan_of (world_of s b h t) t t.loop) i
  start_becomes s b k h (runs t tries ps x y) i = same

  way_has : (q : Bool) (x y : Rest) → rest_has x ≡ true → rest_has y ≡ true → rest_has (cond q y x) ≡ true
  way_has true x y h i = i
  way_has false x y h i = h

  notified_becomes : (s : State) (k : ℕ) (h : Host) (t : Task) (x y : Rest) (es : List Ended) (r : Notified) → rest_has x ≡ true → rest_has y ≡ true → Becomes s k (on_notified s k h t x y es r)
  notified_becomes s k h t x y es names_nothing i j = marked
  notified_becomes s k h t x y es (handlers_are ms) i j =
      put (settled (after_task h t es ms) (way_on t es x y)) s.handed (settled_has (after_task h t es ms) (way_on t es x y) (way_has (any_failed es && not t.ignores) x y i j))

  attempt_becomes : (q : Bool) (s : State) (b : Batch) (k : ℕ) (h : Host) (t : Task) (n : ℕ) (ps : List Pass) (x y : Rest) (es : List Ended) → f t && (rest_has x && rest_has y) ≡ true → Becomes s k (cond q (on_again s k h t n ps x y) (on_ended s b k h t x y es))
  attempt_becomes true s b k h t n ps x y es i = put (record h { stage = runs t (suc n) ps x y }) _ i
  attempt_becomes false s b k h t n ps x y es i =
      let ways = and-right (f t) (rest_has x && rest_has y) i in
      notified_becomes s k h t x y es (notified_by b.play t (any_changed es && not (any_failed es))) (and-left (rest_has x) (rest_has y) ways) (and-right (rest_has x) (rest_has y) ways)

  results_become : (s : State) (b : Batch) (k : ℕ) (h : Host) (t : Task) (n : ℕ) (ps : List Pass) (x y : Rest) (r : Results) → f t && (rest_has x && rest_has y) ≡ true → Becomes s k (on_results s b k h t n ps x y r)
  results_become s b k h t n ps x y (no_results w) i = marked
  results_become s b k h t n ps x y (results_are es) i = attempt_becomes (asks_again t n es) s b k h t n ps x y (last_attempts es) i

  admitted_become : (s : State) (b : Batch) (k : ℕ) (h : Host) (t : Task) (n : ℕ) (ps : List Pass) (x y : Rest) (a : Admitted) → f t && (rest_has x && rest_has y) ≡ true → Becomes s k (on_admitted s b k h t n ps x y a)
  admitted_become s b k h t n ps x y (admitted os) i = results_become s b k h t n ps x y (end_all (world_of s b h t) t os) i
  admitted_become s b k h t n ps x y breached i = put _ s.handed refl
  admitted_become s b k h t n ps x y unreached i = put _ s.handed refl

  give_becomes : (s : State) (b : Batch) (k : ℕ) (h : Host) (xs : List Answer) (g : Stage) → stage_has g ≡ true → Becomes s k (on_give s b k h xs g)
  give_becomes s b k h xs (waits r) i = same
  give_becomes s b k h xs (runs t tries ps x y) i = admitted_become s b k h t tries ps x y (admit_passes t.action ps xs) i

  becomes_only : (s z : State) (k : ℕ) → Becomes s k z → Only s → Only z
  becomes_only s z k same o = o
  becomes_only s z k marked o = record { batches = o.batches; hosts = o.hosts }
  becomes_only s z k (put x c i) o = record {
    batches = o.batches;
    hosts = λ j y e. ⊎_elim (λ p. ap (λ w. stage_has w.stage) (sym p.1) ∙ i) (λ p. o.hosts j y p) (put_at j k x s.hosts y e);
  }

  begun_has : (q : Bool) (b : Batch) (h : Host) → has b.play.row ≡ true → stage_has h.stage ≡ true
      → stage_has (cond q (settled (record h { marks = []; rescues = []; holds = [] }) (rest_of b.play.row 0 done left)) h).stage ≡ true
  begun_has true b h i j = settled_has (record h { marks = []; rescues = []; holds = [] }) (rest_of b.play.row 0 done left) (rest_of_has b.play.row 0 done left i refl refl)
  begun_has false b h i j = j

  next_only : (s : State) (bs : List Batch) → batches_have bs ≡ true → Only s → Only (with_batches s bs)
  next_only s [] i o = record { batches = refl; hosts = o.hosts }
  next_only s (b ∷ bs) i o = record {
    batches = i;
    hosts = λ k y e.
        let z = host_begun b k s.hosts y e in
        ap (λ w. stage_has w.stage) (sym z.2) ∙ begun_has (is_on z.0 && is_among z.0.name b.members) b z.0 (and-left (has b.play.row) (batches_have bs) i) (o.hosts k z.0 z.1);
  }

  rest_have : (q : Bool) (b : Batch) (bs : List Batch) → batches_have (b ∷ bs) ≡ true → batches_have (cond q bs []) ≡ true
  rest_have true b bs i = and-right (has b.play.row) (batches_have bs) i
  rest_have false b bs i = refl

  host_only : (s : State) (k : ℕ) (o : Option Host) (go : Host → State) → host_at k s.hosts ≡ o → ((h : Host) → stage_has h.stage ≡ true → Becomes s k (go h)) → Only s → Only (on_host s o go)
  host_only s k None go e b o = o
  host_only s k (Some h) go e b o = becomes_only s (go h) k (b h (o.hosts k h e)) o

  happened_only : (s : State) (bs : List Batch) (e : Event) → batches_have bs ≡ true → Only s → Only (happened s bs e)
  happened_only s [] e i o = o
  happened_only s (b ∷ bs) (start k) i o = host_only s k (host_at k s.hosts) (λ h. on_start s b k h h.stage) refl (λ h j. start_becomes s b k h h.stage j) o
  happened_only s (b ∷ bs) (give k xs) i o = host_only s k (host_at k s.hosts) (λ h. on_give s b k h xs h.stage) refl (λ h j. give_becomes s b k h xs h.stage j) o
  happened_only s (b ∷ bs) turn i o = next_only s (cond (any_names (still_active s.hosts b.members)) bs []) (rest_have (any_names (still_active s.hosts b.members)) b bs i) o
  happened_only s (b ∷ bs) stop i o = record { batches = o.batches; hosts = o.hosts }

  step_only : (q : Bool) (s : State) (e : Event) → Only s → Only (cond q (happened s s.batches e) s)
  step_only true s e o = happened_only s s.batches e o.batches o
  step_only false s e o = o

  run_only : (es : List Event) (s : State) → Only s → Only (run_from s es)
  run_only [] s o = o
  run_only (e ∷ es) s o = run_only es (step s e) (step_only (enabled s e) s e o)

  own_batches : (p : Play) (bs : List (List Name)) (cs : List Batch) → has p.row ≡ true → batches_have cs ≡ true → batches_have (batches_of p bs ++ cs) ≡ true
  own_batches p [] cs h i = i
  own_batches p (b ∷ bs) cs h i = and-both (has p.row) (batches_have (batches_of p bs ++ cs)) h (own_batches p bs cs h i)

  all_have : (ps : Program) → program_has f (λ p. handlers_have f) ps ≡ true → batches_have (all_batches ps) ≡ true
  all_have [] h = refl
  all_have (p ∷ ps) h =
      let rest = program_has f (λ p. handlers_have f) ps in
      own_batches p p.batches (all_batches ps) (and-left (has p.row) rest h) (all_have ps (and-right (has p.row) rest h))

  opening_has : (k : ℕ) (xs : List HostVariables) (h : Host) → host_at k (opening_hosts xs) ≡ Some h → stage_has h.stage ≡ true
  opening_has k [] h e = absurd (true≢false (cc))
  opening_has zero (x ∷ xs) h e = let same : record { name = x.name; variables = x.variables; marks = []; failure = []; rescues = []; holds = []; stage = waits over; recap = empty_recap } ≡ h = cc in ap (λ w. stage_has w.stage) (sym same)
  opening_has (suc k) (x ∷ xs) h e = opening_has k xs h e

  opening_only : (ps : Program) (inventory : Inventory) (forks : ℕ) → program_has f (λ p. handlers_have f) ps ≡ true → Only (opening ps inventory forks)
  opening_only ps inventory forks h =
      next_only (record { inventory = inventory; forks = forks; hosts = opening_hosts inventory.hosts; batches = []; handed = 0; is_stuck = false; is_stopped = false }) (all_batches ps) (all_have ps h)
      (record { batches = refl; hosts = λ k y e. opening_has k inventory.hosts y e })

  -- while a job is out, the host is as its Start left it, whichever attempt it is
  module _ (b : Batch) (bs : List Batch) (k : ℕ) (h : Host) (t : Task) (ps : List Pass) (x y : Rest) (inventory : Inventory) where
    record Out (s : State) : Type 0 where
      inventory_same : s.inventory ≡ inventory
      batch : s.batches ≡ b ∷ bs
      tries : ℕ
      host : host_at k s.hosts ≡ Some (with_job h t tries ps x y)

    becomes_out : (s z : State) (j : ℕ) → nat_eq j k ≡ false → Becomes s j z → Out s → Out z
    becomes_out s z j e same o = o
    becomes_out s z j e marked o = record { inventory_same = o.inventory_same; batch = o.batch; tries = o.tries; host = o.host }
    becomes_out s z j e (put w c i) o = record { inventory_same = o.inventory_same; batch = o.batch; tries = o.tries; host = put_apart j k w s.hosts e ∙ o.host }

    host_out : (s : State) (j : ℕ) (o : Option Host) (go : Host → State) → nat_eq j k ≡ false → host_at j s.hosts ≡ o → ((h : Host) → stage_has h.stage ≡ true → Becomes s j (go h)) → Only s → Out s → Out (on_host s o go)
    host_out s j None go d e f o u = u
    host_out s j (Some h) go d e f o u = becomes_out s (go h) j d (f h (o.hosts j h e)) u

    no_start : (s : State) (c : Batch) → Out s → of_host (host_at k s.hosts) (λ h. can_start s c h.stage) ≡ true → false ≡ true
    no_start s c u i = sym (ap (λ o. of_host o (λ h. can_start s c h.stage)) u.host) ∙ i

    start_out : (q : Bool) (s : State) (c : Batch) (j : ℕ) → nat_eq j k ≡ q → of_host (host_at j s.hosts) (λ h. can_start s c h.stage) ≡ true → Only s → Out s → Out (on_host s (host_at j s.hosts) (λ h. on_start s c j h h.stage))
    start_out true s c j d i o u = untrue (no_start s c u (ap (λ n. of_host (host_at n s.hosts) (λ h. can_start s c h.stage)) (sym (same_number j k d)) ∙ i))
    start_out false s c j d i o u = host_out s j (host_at j s.hosts) (λ h. on_start s c j h h.stage) d refl (λ h r. start_becomes s c j h h.stage r) o u

    -- of its own Gives, one after which the job isn't out is none of these
    module _ (s : State) (u : Out s) where
      abbrev job : Host
      job = with_job h t u.tries ps x y

      marked_out : Out (stuck_state s)
      marked_out = record { inventory_same = u.inventory_same; batch = u.batch; tries = u.tries; host = u.host }

      put_in : (w : Host) → is_out w.stage ≡ false → is_out_at k (put_host k w s.hosts) ≡ true → false ≡ true
      put_in w e i = sym e ∙ sym (ap (λ o. of_host o (λ h. is_out h.stage)) (put_here k w s.hosts job u.host)) ∙ i

      notified_out : (es : List Ended) (r : Notified) → is_out_at k (on_notified s k job t x y es r).hosts ≡ true → Out (on_notified s k job t x y es r)
      notified_out es names_nothing i = marked_out
      notified_out es (handlers_are ms) i = untrue (put_in (settled (after_task job t es ms) (way_on t es x y)) (settled_waits (after_task job t es ms) (way_on t es x y)) i)

      attempt_out : (c : Batch) (q : Bool) (es : List Ended) → is_out_at k (cond q (on_again s k job t u.tries ps x y) (on_ended s c k job t x y es)).hosts ≡ true → Out (cond q (on_again s k job t u.tries ps x y) (on_ended s c k job t x y es))
      attempt_out c true es i = record { inventory_same = u.inventory_same; batch = u.batch; tries = suc u.tries; host = put_here k (with_job h t (suc u.tries) ps x y) s.hosts job u.host }
      attempt_out c false es i = notified_out es (notified_by c.play t (any_changed es && not (any_failed es))) i

      results_out : (c : Batch) (r : Results) → is_out_at k (on_results s c k job t u.tries ps x y r).hosts ≡ true → Out (on_results s c k job t u.tries ps x y r)
      results_out c (no_results w) i = marked_out
      results_out c (results_are es) i = attempt_out c (asks_again t u.tries es) (last_attempts es) i

      admitted_out : (c : Batch) (a : Admitted) → is_out_at k (on_admitted s c k job t u.tries ps x y a).hosts ≡ true → Out (on_admitted s c k job t u.tries ps x y a)
      admitted_out c (admitted os) i = results_out c (end_all (world_of s c job t) t os) i
      admitted_out c breached i = untrue (put_in (record job { stage = waits gone; recap = record h.recap { failed = suc h.recap.failed } }) refl i)
      admitted_out c unreached i = untrue (put_in (record job { stage = waits gone; recap = record h.recap { unreachable = suc h.recap.unreachable } }) refl i)

      found_out : (c : Batch) (xs : List Answer) (o : Option Host) → Some job ≡ o → is_out_at k (on_host s o (λ h. on_give s c k h xs h.stage)).hosts ≡ true → Out (on_host s o (λ h. on_give s c k h xs h.stage))
      found_out c xs o e i =
          subst (λ o. Out (on_host s o (λ h. on_give s c k h xs h.stage))) e (admitted_out c (admit_passes t.action ps xs) (ap (λ o. is_out_at k (on_host s o (λ h. on_give s c k h xs h.stage)).hosts) e ∙ i))

    give_out : (q : Bool) (s : State) (c : Batch) (j : ℕ) (xs : List Answer) → nat_eq j k ≡ q → not q || is_out_at k (on_host s (host_at j s.hosts) (λ h. on_give s c j h xs h.stage)).hosts ≡ true → Only s → Out s → Out (on_host s (host_at j s.hosts) (λ h. on_give s c j h xs h.stage))
    give_out true s c j xs d i o u =
        let same = sym (same_number j k d) in
        subst (λ n. Out (on_host s (host_at n s.hosts) (λ h. on_give s c n h xs h.stage))) same
        (found_out s u c xs (host_at k s.hosts) (sym u.host) (ap (λ n. is_out_at k (on_host s (host_at n s.hosts) (λ h. on_give s c n h xs h.stage)).hosts) same ∙ i))
    give_out false s c j xs d i o u = host_out s j (host_at j s.hosts) (λ h. on_give s c j h xs h.stage) d refl (λ h r. give_becomes s c j h xs h.stage r) o u

    possible_out : (s : State) (cs : List Batch) (e : Event) → not (gives_to k e) || is_out_at k (happened s cs e).hosts ≡ true → is_possible s cs e ≡ true → Only s → Out s → Out (happened s cs e)
    possible_out s [] e d i o u = u
    possible_out s (c ∷ cs) (start j) d i o u = start_out (nat_eq j k) s c j refl i o u
    possible_out s (c ∷ cs) (give j xs) d i o u = give_out (nat_eq j k) s c j xs refl d o u
    possible_out s (c ∷ cs) turn d i o u = untrue (idle_at k s.hosts (with_job h t u.tries ps x y) i u.host)
    possible_out s (c ∷ cs) stop d i o u = record { inventory_same = u.inventory_same; batch = u.batch; tries = u.tries; host = u.host }

    step_out : (q : Bool) (s : State) (e : Event) → enabled s e ≡ q → not (gives_to k e) || is_out_at k (cond q (happened s s.batches e) s).hosts ≡ true → Only s → Out s → Out (cond q (happened s s.batches e) s)
    step_out true s e i d o u = possible_out s s.batches e d (and-right (not s.is_stopped) (is_possible s s.batches e) i) o u
    step_out false s e i d o u = u

    run_out : (es : List Event) (s : State) → stays_out k s es ≡ true → Only s → Out s → Out (run_from s es)
    run_out [] s d o u = u
    run_out (e ∷ es) s d o u =
        let first = not (gives_to k e) || is_out_at k (step s e).hosts in
        let rest = stays_out k (step s e) es in
        run_out es (step s e) (and-right first rest d) (step_only (enabled s e) s e o) (step_out (enabled s e) s e refl (and-left first rest d) o u)

pub gives_read_their_start : GivesReadTheirStart
gives_read_their_start ms inventory book n forks es fs s b bs k h t going failing ps accepts reached c d none =
    let program = program_of ms inventory book in
    let only : Only reads_alone s = subst (Only reads_alone) (sym reached) (run_only reads_alone es (opening program inventory forks) (opening_only reads_alone program inventory forks (program_alone ms inventory book n accepts))) in
    let begun = start_hands_out s b bs k h t going failing ps c d in
    let first : Out reads_alone b bs k h t ps going failing s.inventory (step s (start k)) = subst (Out reads_alone b bs k h t ps going failing s.inventory) (sym begun) (record { inventory_same = refl; batch = c.batch; tries = 0; host = put_here k (with_job h t 0 ps going failing) s.hosts h c.host }) in
    let last = run_out reads_alone b bs k h t ps going failing s.inventory fs (step s (start k)) none (step_only reads_alone (enabled s (start k)) s (start k) only) first in
    let alone = and-left (reads_alone t) (rest_has reads_alone going && rest_has reads_alone failing) (sym (ap (stage_has reads_alone) c.next) ∙ only.hosts k h c.host) in
    let later = keyword_reads_others t.failed_when || until_reads_others t.attempts in
    let neither = not-true (keyword_reads_others t.changed_when || later) alone in
    let rest = neither-right (keyword_reads_others t.changed_when) later neither in
    let z = run_from (step s (start k)) fs in
    record {
      batch = last.batch;
      attempts = last.tries;
      host = last.host;
      results = λ os. same_results (world_of z b (with_job h t last.tries ps going failing) t) (world_of s b h t) t os (same_at_give z s b (with_job h t last.tries ps going failing) h t last.inventory_same refl refl refl)
          (neither-left (keyword_reads_others t.changed_when) later neither) (neither-left (keyword_reads_others t.failed_when) (until_reads_others t.attempts) rest) (neither-right (keyword_reads_others t.failed_when) (until_reads_others t.attempts) rest);
    }
