-- Few events are enabled: each uses up something of what a run still has ahead.
use Rattle.std.proofs.Common.{◌≡◌, ◌≤◌, ◌+◌, ◌-◌, ◌*◌, nat_lt, ℕ, suc, max, List, [], ◌∷◌, Bool, true, false, not, ◌&&◌, ◌||◌, cond, Option, Some, None, length, refl, sym, ap, ◌∙◌, arith, true≢false, bytes_eq}
use Rattle.std.proofs.Math.Nat.{suc-mul}
use Rattle.std.proofs.lemmas.Bool.{ltb-true}
use Rattle.pb_semantics.specs.Keeps.{is_among}
use Rattle.pb_semantics.proofs.Bools.{untrue, and-left, and-right, neither-left, neither-right, not-true}
use Rattle.pb_semantics.proofs.Names.{same_name, own_name}
use Rattle.pb_language.specs.Expression.{Name}
use Rattle.pb_language.specs.World.{HostVariables}
use Rattle.pb_language.specs.Task.{Task, Handlers, no_handlers, handler, Row, end, task, flush, section, block}
use Rattle.pb_language.specs.Rest.{Rest, done, left, next, ask, rescue, hold, release, flush_rest, rest_of}
use Rattle.pb_language.specs.Start.{Pass, Plan, planned, halted, plan_of}
use Rattle.pb_language.specs.Give.{Answer, Admitted, admitted, breached, unreached, admit_passes, Ended, Results, results_are, no_results, end_all, all_hold, retries_of, asks_again, last_attempts, any_changed, any_failed}
use Rattle.pb_language.specs.Notify.{Notified, handlers_are, names_nothing}
use Rattle.pb_language.specs.Plays.{program_of}
use Rattle.pb_language.specs.Program.{Inventory, Batch, all_batches}
use Rattle.pb_language.specs.Theorem.{host_names, are_distinct, task_events, handler_events, row_events, occurrence_events, NeverStuck, ShortHistory}
use Rattle.pb_language.specs.Machine.{on_again, on_ended, Event, start, give, turn, stop, over, gone, begins, Stage, waits, runs, Host, Recap, State, is_marked, unmarked, outermost, innermost, settled, is_on, is_on_stage, still_active, world_of, host_at, put_host, is_out, can_start, of_host, is_possible, enabled, with_host, on_plan, on_start, notified_by, after_task, way_on, on_notified, on_results, on_admitted, on_give, all_begun, any_names, with_batches, on_host, happened, step, opening_hosts, opening, run_from, history}
use Rattle.pb_language.proofs.Seen.{total, total_put}
use Rattle.pb_language.proofs.Runs.{settled_name}

-- the events of the tasks on the longest way
abbrev longest : Rest → ℕ
longest done = 0
longest left = 0
longest (next t a b) = task_events t + max (longest a) (longest b)
longest (ask n a b) = max (longest a) (longest b)
longest (rescue d r) = longest r
longest (hold m r) = longest r
longest (release m r) = longest r

longest_task : (c d n a b : ℕ) → a ≤ d + n → b ≤ n → c + max a b ≤ c + d + n
longest_task c d n a b h i = grind arith

longest_ask : (c d n a b : ℕ) → a ≤ d + n → b ≤ n → max (c + max a b) a ≤ c + d + n
longest_ask c d n a b h i = grind arith

longest_flush : (hs : Handlers) (a : Rest) (n : ℕ) → longest a ≤ n → longest (flush_rest hs a) ≤ handler_events hs + n
longest_flush no_handlers a n h = omega (arith, h)
longest_flush (handler m t hs) a n h = longest_ask (task_events t) (handler_events hs) n (longest (flush_rest hs a)) 0 (longest_flush hs a n h) (omega arith)

-- the longest way through a row has no more of them than the row has
longest_row : (row : Row) (e : ℕ) (a b : Rest) (n : ℕ) → longest a ≤ n → longest b ≤ n → longest (rest_of row e a b) ≤ row_events row + n
longest_row end e a b n h i = omega (arith, h)
longest_row (task t row) e a b n h i = longest_task (task_events t) (row_events row) n (longest (rest_of row e a b)) (longest b) (longest_row row e a b n h i) i
longest_row (flush hs row) e a b n h i =
    let rest = longest_row row e a b n h i in
    let all = longest_flush hs (rest_of row e a b) (row_events row + n) rest in
    omega (arith, all)
longest_row (section body hs row) e a b n h i =
    let k = row_events row + n in
    let ends = handler_events hs + k in
    let ok = longest_flush hs (rest_of row e a b) k (longest_row row e a b n h i) in
    let ko = longest_flush hs left k (omega arith) in
    let all = longest_row body e (flush_rest hs (rest_of row e a b)) (flush_rest hs left) ends ok ko in
    omega (arith, all)
longest_row (block d body true rescued always row) e a b n h i =
    let rest = longest_row row e a b n h i in
    let k = row_events row + n in
    let low : longest b ≤ k = omega (arith, i) in
    let ok = longest_row always e (rest_of row e a b) b k rest low in
    let ko = longest_row always (suc e) (release e b) b k low low in
    let ends = row_events always + k in
    let saved = longest_row rescued e (rest_of always e (rest_of row e a b) b) (hold e (rest_of always (suc e) (release e b) b)) ends ok ko in
    let ok' : longest (rest_of always e (rest_of row e a b) b) ≤ row_events rescued + ends = omega (arith, ok) in
    let all = longest_row body e (rest_of always e (rest_of row e a b) b) (rescue d (rest_of rescued e (rest_of always e (rest_of row e a b) b) (hold e (rest_of always (suc e) (release e b) b)))) (row_events rescued + ends) ok' saved in
    omega (arith, all)
longest_row (block d body false rescued always row) e a b n h i =
    let rest = longest_row row e a b n h i in
    let k = row_events row + n in
    let low : longest b ≤ k = omega (arith, i) in
    let ok = longest_row always e (rest_of row e a b) b k rest low in
    let ko = longest_row always (suc e) (release e b) b k low low in
    let ends = row_events always + k in
    let ok' : longest (rest_of always e (rest_of row e a b) b) ≤ row_events rescued + ends = omega (arith, ok) in
    let ko' : longest (hold e (rest_of always (suc e) (release e b) b)) ≤ row_events rescued + ends = omega (arith, ko) in
    let all = longest_row body e (rest_of always e (rest_of row e a b) b) (hold e (rest_of always (suc e) (release e b) b)) (row_events rescued + ends) ok' ko' in
    omega (arith, all)

-- the events of a batch for a host of that name
abbrev own_events : Batch → Name → ℕ
own_events b n = cond (is_among n b.members) (row_events b.play.row) 0

-- the events that it may have in these batches
abbrev later : List Batch → Name → ℕ
later [] n = 0
later (b ∷ bs) n = own_events b n + later bs n

-- the events that a host may still have, with these batches after the one that runs
abbrev ahead : List Batch → Name → Stage → ℕ
ahead bs n (waits over) = later bs n
ahead bs n (waits gone) = 0
ahead bs n (waits (begins t x y)) = task_events t + max (longest x) (longest y) + later bs n
ahead bs n (runs t tries ps x y) = suc (retries_of t.attempts - tries) + max (longest x) (longest y) + later bs n

-- a Turn for each batch, and one Stop
abbrev events_of : List Batch → List Host → ℕ
events_of [] hs = 0
events_of (b ∷ bs) hs = 2 + length bs + total (ahead bs) hs

abbrev fuel : State → ℕ
fuel s = cond s.is_stopped 0 (events_of s.batches s.hosts)

fuel_low : (q : Bool) (n : ℕ) → cond q 0 n ≤ n
fuel_low true n = omega arith
fuel_low false n = omega arith

module _ (bs : List Batch) (n : Name) where
  marked_ahead : (q : Bool) (x y : Host) (u v f : ℕ) → ahead bs n x.stage ≤ u + f → ahead bs n y.stage ≤ v + f → ahead bs n (cond q x y).stage ≤ max u v + f
  marked_ahead true x y u v f h i = grind arith
  marked_ahead false x y u v f h i = grind arith

  -- a host that goes on has no more ahead than its way
  settled_ahead : (r : Rest) (h : Host) → ahead bs n (settled h r).stage ≤ longest r + later bs n
  settled_ahead done h = omega arith
  settled_ahead left h = omega arith
  settled_ahead (next t a b) h = omega arith
  settled_ahead (ask i a b) h =
      marked_ahead (is_marked i h.marks) (settled (record h { marks = unmarked i h.marks }) a) (settled h b) (longest a) (longest b) (later bs n) (settled_ahead a (record h { marks = unmarked i h.marks })) (settled_ahead b h)
  settled_ahead (rescue d r) h = settled_ahead r (record h { rescues = h.failure ∷ outermost d h.rescues })
  settled_ahead (hold m r) h = settled_ahead r (record h { holds = h.failure ∷ outermost m h.holds })
  settled_ahead (release m r) h = settled_ahead r (record h { failure = innermost (outermost (suc m) h.holds) })

way_low : (q : Bool) (x y : Rest) → longest (cond q y x) ≤ max (longest x) (longest y)
way_low true x y = grind arith
way_low false x y = grind arith

-- a batch that begins has no more ahead than was counted for it
module _ (c : Batch) (cs : List Batch) where
  on_ahead : (n : Name) (g : Stage) → is_on_stage g ≡ true → later (c ∷ cs) n ≤ ahead (c ∷ cs) n g
  on_ahead n (waits over) o = omega arith
  on_ahead n (waits gone) o = untrue o
  on_ahead n (waits (begins t x y)) o = omega arith
  on_ahead n (runs t tries ps x y) o = omega arith

  fewer_ahead : (n : Name) (g : Stage) → ahead cs n g ≤ ahead (c ∷ cs) n g
  fewer_ahead n (waits over) = omega arith
  fewer_ahead n (waits gone) = omega arith
  fewer_ahead n (waits (begins t x y)) = omega arith
  fewer_ahead n (runs t tries ps x y) = omega arith

  counted : (q : Bool) (m : ℕ) → q ≡ true → cond q m 0 ≡ m
  counted true m e = refl
  counted false m e = untrue e

  abbrev restarted : Host → Host
  restarted h = settled (record h { marks = []; rescues = []; holds = [] }) (rest_of c.play.row 0 done left)

  begun_at : (q : Bool) (h : Host) → is_on h && is_among h.name c.members ≡ q → ahead cs (cond q (restarted h) h).name (cond q (restarted h) h).stage ≤ ahead (c ∷ cs) h.name h.stage
  begun_at true h e =
      let x = record h { marks = []; rescues = []; holds = [] } in
      let r = rest_of c.play.row 0 done left in
      let name = ap (λ n. ahead cs n (settled x r).stage) (settled_name x r) in
      let way = settled_ahead cs h.name r x in
      let row = longest_row c.play.row 0 done left 0 (omega arith) (omega arith) in
      let on = on_ahead h.name h.stage (and-left (is_on h) (is_among h.name c.members) e) in
      let own = counted (is_among h.name c.members) (row_events c.play.row) (and-right (is_on h) (is_among h.name c.members) e) in
      omega (arith, name, way, row, on, own)
  begun_at false h e = fewer_ahead h.name h.stage

  begun_ahead : (hs : List Host) → total (ahead cs) (all_begun c hs) ≤ total (ahead (c ∷ cs)) hs
  begun_ahead [] = omega arith
  begun_ahead (h ∷ hs) =
      let i = begun_at (is_on h && is_among h.name c.members) h refl in
      let j = begun_ahead hs in
      omega (arith, i, j)

-- an event that is enabled and isn't stuck
module _ (s : State) (b : Batch) (bs : List Batch) (same : s.batches ≡ b ∷ bs) where
  abbrev Less : State → Type 0
  Less z = (z.batches ≡ s.batches) × (total (ahead bs) z.hosts + 1 ≤ total (ahead bs) s.hosts)

  less_fuel : (z : State) → Less z → fuel z + 1 ≤ events_of (b ∷ bs) s.hosts
  less_fuel z l =
      let i = fuel_low z.is_stopped (events_of z.batches z.hosts) in
      let j = ap (λ c. events_of c z.hosts) (l.0 ∙ same) in
      let k = l.1 in
      omega (arith, i, j, k)

  put_less : (k : ℕ) (h x : Host) → host_at k s.hosts ≡ Some h → ahead bs x.name x.stage + 1 ≤ ahead bs h.name h.stage → total (ahead bs) (put_host k x s.hosts) + 1 ≤ total (ahead bs) s.hosts
  put_less k h x e l = let p = total_put (ahead bs) k x s.hosts h e in omega (arith, p, l)

  plan_less : (k : ℕ) (h : Host) (t : Task) (x y : Rest) (p : Plan) → host_at k s.hosts ≡ Some h → h.stage ≡ waits (begins t x y) → (on_plan s k h t x y p).is_stuck ≡ false → Less (on_plan s k h t x y p)
  plan_less k h t x y (planned ps) e g f = let w = ap (ahead bs h.name) g in (refl, put_less k h (record h { stage = runs t 0 ps x y }) e (omega (arith, w)))
  plan_less k h t x y (halted w) e g f = absurd (true≢false f)

  start_less : (k : ℕ) (h : Host) (g : Stage) → host_at k s.hosts ≡ Some h → h.stage ≡ g → can_start s b g ≡ true → (on_start s b k h g).is_stuck ≡ false → Less (on_start s b k h g)
  start_less k h (waits over) e g c f = untrue c
  start_less k h (waits gone) e g c f = untrue c
  start_less k h (waits (begins t x y)) e g c f = plan_less k h t x y (plan_of (world_of s b h t) t t.loop) e g f
  start_less k h (runs t tries ps x y) e g c f = untrue c

  module _ (k : ℕ) (h : Host) (t : Task) (i : ℕ) (ps : List Pass) (x y : Rest) (e : host_at k s.hosts ≡ Some h) (g : h.stage ≡ runs t i ps x y) where
    notified_less : (es : List Ended) (n : Notified) → (on_notified s k h t x y es n).is_stuck ≡ false → Less (on_notified s k h t x y es n)
    notified_less es names_nothing f = absurd (true≢false f)
    notified_less es (handlers_are ms) f =
        let a = after_task h t es ms in
        let w = way_on t es x y in
        let name = ap (λ n. ahead bs n (settled a w).stage) (settled_name a w) in
        let way = settled_ahead bs h.name w a in
        let low = way_low (any_failed es && not t.ignores) x y in
        let stage = ap (ahead bs h.name) g in
        (refl, put_less k h (settled a w) e (omega (arith, name, way, low, stage)))

    attempt_less : (q : Bool) (es us : List Ended) → asks_again t i es ≡ q → (cond q (on_again s k h t i ps x y) (on_ended s b k h t x y us)).is_stuck ≡ false → Less (cond q (on_again s k h t i ps x y) (on_ended s b k h t x y us))
    attempt_less true es us a f =
        let l = ltb-true i (retries_of t.attempts) (and-right (not (all_hold es)) (nat_lt i (retries_of t.attempts)) a) in
        let stage = ap (ahead bs h.name) g in
        (refl, put_less k h (record h { stage = runs t (suc i) ps x y }) e (omega (arith, stage, l)))
    attempt_less false es us a f = notified_less us (notified_by b.play t (any_changed us && not (any_failed us))) f

    results_less : (r : Results) → (on_results s b k h t i ps x y r).is_stuck ≡ false → Less (on_results s b k h t i ps x y r)
    results_less (no_results w) f = absurd (true≢false f)
    results_less (results_are es) f = attempt_less (asks_again t i es) es (last_attempts es) refl f

    gone_less : (r : Recap) → Less (with_host s k (record h { stage = waits gone; recap = r }))
    gone_less r = let stage = ap (ahead bs h.name) g in (refl, put_less k h (record h { stage = waits gone; recap = r }) e (omega (arith, stage)))

    admitted_less : (a : Admitted) → (on_admitted s b k h t i ps x y a).is_stuck ≡ false → Less (on_admitted s b k h t i ps x y a)
    admitted_less (admitted os) f = results_less (end_all (world_of s b h t) t os) f
    admitted_less breached f = gone_less (record h.recap { failed = suc h.recap.failed })
    admitted_less unreached f = gone_less (record h.recap { unreachable = suc h.recap.unreachable })

  give_less : (k : ℕ) (h : Host) (xs : List Answer) (g : Stage) → host_at k s.hosts ≡ Some h → h.stage ≡ g → is_out g ≡ true → (on_give s b k h xs g).is_stuck ≡ false → Less (on_give s b k h xs g)
  give_less k h xs (waits r) e g o f = untrue o
  give_less k h xs (runs t tries ps x y) e g o f = admitted_less k h t tries ps x y e g (admit_passes t.action ps xs) f

  host_start : (k : ℕ) (o : Option Host) → host_at k s.hosts ≡ o → of_host o (λ h. can_start s b h.stage) ≡ true → (on_host s o (λ h. on_start s b k h h.stage)).is_stuck ≡ false → Less (on_host s o (λ h. on_start s b k h h.stage))
  host_start k None e c f = untrue c
  host_start k (Some h) e c f = start_less k h h.stage e refl c f

  host_give : (k : ℕ) (xs : List Answer) (o : Option Host) → host_at k s.hosts ≡ o → of_host o (λ h. is_out h.stage) ≡ true → (on_host s o (λ h. on_give s b k h xs h.stage)).is_stuck ≡ false → Less (on_host s o (λ h. on_give s b k h xs h.stage))
  host_give k xs None e c f = untrue c
  host_give k xs (Some h) e c f = give_less k h xs h.stage e refl c f

  ended_fuel : fuel (with_batches s []) + 1 ≤ events_of (b ∷ bs) s.hosts
  ended_fuel = let i = fuel_low s.is_stopped 0 in omega (arith, i)

  next_fuel : (cs : List Batch) → bs ≡ cs → fuel (with_batches s cs) + 1 ≤ events_of (b ∷ cs) s.hosts
  next_fuel [] e = let i = fuel_low s.is_stopped 0 in omega (arith, i)
  next_fuel (c ∷ cs) e =
      let i = begun_ahead c cs s.hosts in
      let j = fuel_low s.is_stopped (events_of (c ∷ cs) (all_begun c s.hosts)) in
      omega (arith, i, j)

  turn_fuel : (q : Bool) → fuel (with_batches s (cond q bs [])) + 1 ≤ events_of (b ∷ bs) s.hosts
  turn_fuel true = next_fuel bs refl
  turn_fuel false = ended_fuel

  event_fuel : (e : Event) → is_possible s (b ∷ bs) e ≡ true → (happened s (b ∷ bs) e).is_stuck ≡ false → fuel (happened s (b ∷ bs) e) + 1 ≤ events_of (b ∷ bs) s.hosts
  event_fuel (start k) c f = less_fuel (happened s (b ∷ bs) (start k)) (host_start k (host_at k s.hosts) refl c f)
  event_fuel (give k xs) c f = less_fuel (happened s (b ∷ bs) (give k xs)) (host_give k xs (host_at k s.hosts) refl c f)
  event_fuel turn c f = turn_fuel (any_names (still_active s.hosts b.members))
  event_fuel stop c f = omega arith

module _ (s : State) where
  possible_fuel : (bs : List Batch) (e : Event) → s.batches ≡ bs → is_possible s bs e ≡ true → (happened s bs e).is_stuck ≡ false → fuel (happened s bs e) + 1 ≤ events_of bs s.hosts
  possible_fuel [] e i c f = untrue c
  possible_fuel (b ∷ bs) e i c f = event_fuel s b bs i e c f

  going_fuel : (q : Bool) (n : ℕ) → q ≡ false → cond q 0 n ≡ n
  going_fuel true n e = absurd (true≢false e)
  going_fuel false n e = refl

  step_fuel : (q : Bool) (e : Event) (xs : List Event) → enabled s e ≡ q → (cond q (happened s s.batches e) s).is_stuck ≡ false → length xs ≤ fuel (cond q (happened s s.batches e) s) → length (cond q (e ∷ xs) xs) ≤ fuel s
  step_fuel true e xs i f l =
      let on = going_fuel s.is_stopped (events_of s.batches s.hosts) (not-true s.is_stopped (and-left (not s.is_stopped) (is_possible s s.batches e) i)) in
      let p = possible_fuel s.batches e refl (and-right (not s.is_stopped) (is_possible s s.batches e) i) f in
      omega (arith, on, p, l)
  step_fuel false e xs i f l = l

-- a run of which no step is stuck has no more enabled events than are ahead of it
short : (es : List Event) (s : State) → ((xs : List Event) → (run_from s xs).is_stuck ≡ false) → length (history s es) ≤ fuel s
short [] s f = omega arith
short (e ∷ es) s f = step_fuel s (enabled s e) e (history (step s e) es) refl (f (e ∷ [])) (short es (step s e) (λ xs. f (e ∷ xs)))

-- a number for each name that is this one, and for each that is among these
abbrev for_name : Name → ℕ → List Name → ℕ
for_name m d [] = 0
for_name m d (n ∷ ns) = cond (bytes_eq n m) d 0 + for_name m d ns

abbrev for_names : List Name → ℕ → List Name → ℕ
for_names ms d [] = 0
for_names ms d (n ∷ ns) = cond (is_among n ms) d 0 + for_names ms d ns

other_name : (q : Bool) (d k : ℕ) → q ≡ false → k ≡ 0 → cond q d 0 + k ≡ 0
other_name true d k e i = absurd (true≢false e)
other_name false d k e i = omega (arith, i)

turned_unlike : (q : Bool) (n m : Name) → bytes_eq n m ≡ q → bytes_eq m n ≡ false → q ≡ false
turned_unlike true n m e i = absurd (true≢false (sym (own_name n) ∙ (ap (λ z. bytes_eq z n) (same_name n m e) ∙ i)))
turned_unlike false n m e i = refl

none_named : (m : Name) (d : ℕ) (ns : List Name) → is_among m ns ≡ false → for_name m d ns ≡ 0
none_named m d [] i = refl
none_named m d (n ∷ ns) i =
    other_name (bytes_eq n m) d (for_name m d ns) (turned_unlike (bytes_eq n m) n m refl (neither-left (bytes_eq m n) (is_among m ns) i)) (none_named m d ns (neither-right (bytes_eq m n) (is_among m ns) i))

-- of distinct names at most one is this one
first_named : (q : Bool) (m n : Name) (d : ℕ) (ns : List Name) → bytes_eq n m ≡ q → is_among n ns ≡ false → for_name m d ns ≤ d → cond q d 0 + for_name m d ns ≤ d
first_named true m n d ns e i l = let j = none_named m d ns (ap (λ z. is_among z ns) (sym (same_name n m e)) ∙ i) in omega (arith, j)
first_named false m n d ns e i l = omega (arith, l)

one_named : (m : Name) (d : ℕ) (ns : List Name) → are_distinct ns ≡ true → for_name m d ns ≤ d
one_named m d [] a = omega arith
one_named m d (n ∷ ns) a =
    first_named (bytes_eq n m) m n d ns refl (not-true (is_among n ns) (and-left (not (is_among n ns)) (are_distinct ns) a)) (one_named m d ns (and-right (not (is_among n ns)) (are_distinct ns) a))

either_counted : (p q : Bool) (d : ℕ) → cond (p || q) d 0 ≤ cond p d 0 + cond q d 0
either_counted true q d = omega arith
either_counted false q d = omega arith

first_and_others : (m : Name) (ms : List Name) (d : ℕ) (ns : List Name) → for_names (m ∷ ms) d ns ≤ for_name m d ns + for_names ms d ns
first_and_others m ms d [] = omega arith
first_and_others m ms d (n ∷ ns) =
    let i = either_counted (bytes_eq n m) (is_among n ms) d in
    let j = first_and_others m ms d ns in
    omega (arith, i, j)

none_counted : (d : ℕ) (ns : List Name) → for_names [] d ns ≡ 0
none_counted d [] = refl
none_counted d (n ∷ ns) = let i = none_counted d ns in omega (arith, i)

-- of distinct names at most so many are among these
all_counted : (ms : List Name) (d : ℕ) (ns : List Name) → are_distinct ns ≡ true → for_names ms d ns ≤ length ms * d
all_counted [] d ns a = let i = none_counted d ns in omega (arith, i)
all_counted (m ∷ ms) d ns a =
    let i = first_and_others m ms d ns in
    let j = one_named m d ns a in
    let k = all_counted ms d ns a in
    let l = suc-mul (length ms) d in
    omega (arith, i, j, k, l)

-- what is ahead of all names
abbrev later_of_all : List Batch → List Name → ℕ
later_of_all bs [] = 0
later_of_all bs (n ∷ ns) = later bs n + later_of_all bs ns

nothing_later : (ns : List Name) → later_of_all [] ns ≡ 0
nothing_later [] = refl
nothing_later (n ∷ ns) = let i = nothing_later ns in omega (arith, i)

first_batch : (b : Batch) (bs : List Batch) (ns : List Name) → later_of_all (b ∷ bs) ns ≡ for_names b.members (row_events b.play.row) ns + later_of_all bs ns
first_batch b bs [] = refl
first_batch b bs (n ∷ ns) = let i = first_batch b bs ns in omega (arith, i)

few_later : (bs : List Batch) (ns : List Name) → are_distinct ns ≡ true → later_of_all bs ns ≤ occurrence_events bs
few_later [] ns a = let i = nothing_later ns in omega (arith, i)
few_later (b ∷ bs) ns a =
    let i = first_batch b bs ns in
    let j = all_counted b.members (row_events b.play.row) ns a in
    let k = few_later bs ns a in
    omega (arith, i, j, k)

opening_ahead : (bs : List Batch) (xs : List HostVariables) → total (ahead bs) (opening_hosts xs) ≡ later_of_all bs (host_names xs)
opening_ahead bs [] = refl
opening_ahead bs (x ∷ xs) = ap (λ k. later bs x.name + k) (opening_ahead bs xs)

opening_fuel : (inventory : Inventory) (forks : ℕ) (bs : List Batch) → are_distinct (host_names inventory.hosts) ≡ true
    → fuel (with_batches (record { inventory = inventory; forks = forks; hosts = opening_hosts inventory.hosts; batches = []; handed = 0; is_stuck = false; is_stopped = false }) bs) ≤ occurrence_events bs + length bs + 1
opening_fuel inventory forks [] a = omega arith
opening_fuel inventory forks (b ∷ bs) a =
    let i = begun_ahead b bs (opening_hosts inventory.hosts) in
    let j = opening_ahead (b ∷ bs) inventory.hosts in
    let k = few_later (b ∷ bs) (host_names inventory.hosts) a in
    omega (arith, i, j, k)

pub short_history_from : NeverStuck → ShortHistory
short_history_from never ms inventory b n forks es d h =
    let program = program_of ms inventory b in
    let i = short es (opening program inventory forks) (λ xs. never ms inventory b n forks xs d h) in
    let j = opening_fuel inventory forks (all_batches program) d in
    omega (arith, i, j)
