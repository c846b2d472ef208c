-- What is found on a way, visit by visit.
use Rattle.std.proofs.Common.{◌≡◌, ℕ, zero, suc, ◌<◌, length, arith, List, [], ◌∷◌, ◌++◌, Bool, true, false, ◌&&◌, Option, Some, None, option_map, slice_index_or, refl, sym, ap, subst, ◌∙◌}
use Rattle.pb_semantics.specs.Kind.{Slots, recs}
use Rattle.pb_semantics.specs.Well.{Well}
use Rattle.pb_language.specs.Expression.{Name}
use Rattle.pb_language.specs.Fit.{Fault, asks, first, unknown_handler}
use Rattle.pb_language.specs.Judgement.{Exit, dead, live, task_fault, task_writes}
use Rattle.pb_language.specs.Notify.{all_notified, names_something}
use Rattle.pb_language.specs.Setting.{Setting}
use Rattle.pb_language.specs.Tables.{with_visits, with_writes, visits_below, writes_below}
use Rattle.pb_language.specs.Task.{Task}
use Rattle.pb_language.specs.Verdict.{lesser, visits_offence, visit_offence, code_of}
use Rattle.pb_language.specs.Walk.{Visit, visits_at}
use Rattle.pb_language.specs.Wells.{WellExit, WellSets, WellViews}
use Rattle.pb_language.proofs.After.{after_claim}
use Rattle.pb_language.proofs.Rounds.{writes_well}
use Rattle.pb_lattice.specs.Environments.{Stands, is_dead}
use Rattle.pb_lattice.specs.Shared.{Shared}
use Rattle.pb_lattice.specs.declared.environment.Environment.{Environment}
use Rattle.pb_lattice.proofs.Exits.{stands_well}
use Rattle.pb_outlook.specs.Standing.{known_of}
use Rattle.pb_forms.specs.FitView.{fault_view}
use Rattle.pb_forms.specs.declared.unfit.Unfit.{Unfit}
use Rattle.pb_walks.specs.Agree.{SlotsAgree}
use Rattle.pb_walks.specs.Notified.{AllNameHandlers}
use Rattle.pb_walks.proofs.Agreeing.{slots_own, slots_through}
use Rattle.pb_route.specs.Visited.{nodes_visits}
use Rattle.pb_find.specs.Finds.{Finds, offence_of}
use Rattle.pb_find.specs.Ways.{nothing_known, value_at}
use Rattle.pb_find.specs.Written.{Written}
use Rattle.pb_find.specs.declared.find.Find.{Find}
use Rattle.pb_find.specs.declared.find.FaultAt.{FaultAt}
use Rattle.pb_find.proofs.Offences.{lesser_assoc, lesser_none, offence_both}
use Rattle.pb_find.proofs.Writes.{and_again, and_true, next_of, written_both}

-- what is written on each visit is well formed
abbrev pub WellWrites : List Visit → Type 0
WellWrites [] = Unit {0}
WellWrites (v ∷ vs) = WellSets (task_writes v.setting v.visited v.env) × WellWrites vs

visits_well : (vs : List Visit) (ss : Slots) → WellWrites vs → Well (recs ss) → Well (recs (with_visits vs ss))
visits_well [] ss u w = w
visits_well (v ∷ vs) ss u w =
    let r = task_writes v.setting v.visited v.env in
    visits_well vs (with_writes r ss) u.1 (writes_well r ss u.0 w)

visits_both : (vs : List Visit) (ss ts : Slots) → WellWrites vs → Well (recs ss) → Well (recs ts) → SlotsAgree ss ts → SlotsAgree (with_visits vs ss) (with_visits vs ts)
visits_both [] ss ts u w v a = a
visits_both (x ∷ vs) ss ts u w v a =
    let r = task_writes x.setting x.visited x.env in
    visits_both vs (with_writes r ss) (with_writes r ts) u.1 (writes_well r ss u.0 w) (writes_well r ts u.0 v) (written_both r ss ts u.0 w v a)

visits_append : (vs us : List Visit) (ss : Slots) → with_visits (vs ++ us) ss ≡ with_visits us (with_visits vs ss)
visits_append [] us ss = refl
visits_append (v ∷ vs) us ss = visits_append vs us (with_writes (task_writes v.setting v.visited v.env) ss)

below_append : (vs us : List Visit) (ss : Slots) → visits_below (vs ++ us) ss ≡ visits_below vs ss && visits_below us ss
below_append [] us ss = refl
below_append (v ∷ vs) us ss =
    let b = writes_below (task_writes v.setting v.visited v.env) ss in
    ap (λ q. b && q) (below_append vs us ss) ∙ sym (and_again b (visits_below vs ss) (visits_below us ss))

handlers_first : (vs us : List Visit) → AllNameHandlers (vs ++ us) → AllNameHandlers vs
handlers_first [] us h = tt
handlers_first (v ∷ vs) us h = (h.0, handlers_first vs us h.1)

handlers_second : (vs us : List Visit) → AllNameHandlers (vs ++ us) → AllNameHandlers us
handlers_second [] us h = h
handlers_second (v ∷ vs) us h = handlers_second vs us h.1

pub finds_nothing : (h : Name) (view : Slots) (f : Find) → Well (recs (next_of f)) → Finds h view [] f f
finds_nothing h view f w = record { fault = λ a. sym (lesser_none (offence_of h f.fault)); next = slots_own (next_of f) w; well = w; settled = and_true f.is_settled; same = λ e. (e, refl) }

-- visits, and then others
pub finds_then : (h : Name) (view : Slots) (vs us : List Visit) (f g k : Find) → WellWrites vs → WellWrites us → Well (recs (next_of f)) → Finds h view vs f g → Finds h view us g k → Finds h view (vs ++ us) f k
finds_then h view vs us f g k a b w x y =
    let between = with_visits vs (next_of f) in
    let wb : Well (recs between) = visits_well vs (next_of f) a w in
    let up : SlotsAgree (with_visits us (next_of g)) (with_visits us between) = visits_both us (next_of g) between b x.well wb x.next in
    record {
      fault = λ n. y.fault (handlers_second vs us n) ∙ ap (λ o. lesser o (visits_offence h us)) (x.fault (handlers_first vs us n)) ∙ lesser_assoc (offence_of h f.fault) (visits_offence h vs) (visits_offence h us)
          ∙ ap (lesser (offence_of h f.fault)) (sym (offence_both h vs us));
      next = rw (visits_append vs us (next_of f)) (slots_through (next_of k) (with_visits us (next_of g)) (with_visits us between) y.well (visits_well us (next_of g) b x.well) (visits_well us between b wb) y.next up);
      well = y.well;
      settled = y.settled ∙ ap (λ q. q && visits_below us view) x.settled ∙ and_again f.is_settled (visits_below vs view) (visits_below us view) ∙ ap (λ q. f.is_settled && q) (sym (below_append vs us view));
      same = λ e. let q = y.same e in let p = x.same q.0 in (p.0, q.1 ∙ p.1);
    }

-- the fault of a visit
no_handler : (o : Option Fault) (q : Bool) → q ≡ true → first o (asks unknown_handler q) ≡ o
no_handler None true h = refl
no_handler (Some f) true h = refl
no_handler o false h = absurd (cc)

same_offence : (h : Name) (l : ℕ) (u : Option Unfit) → offence_of h (option_map (λ x. record { line = l; unfit = x }) u) ≡ option_map (λ f. record { code = code_of f; line = l; host = Some h }) (option_map fault_view u)
same_offence h l None = refl
same_offence h l (Some x) = refl

module _ (h : Name) (v : Visit) (l : ℕ) (u : Option Unfit) (line : l ≡ v.visited.line) where
  pub found_there : (found : Option FaultAt) → found ≡ option_map (λ x. record { line = l; unfit = x }) u
      → task_fault v.setting v.visited v.env ≡ first (option_map fault_view u) (asks unknown_handler (names_something (all_notified v.setting.handlers v.visited.notifies)))
      → names_something (all_notified v.setting.handlers v.visited.notifies) ≡ true → offence_of h found ≡ visit_offence h v
  found_there found e fault n =
      ap (offence_of h) e ∙ same_offence h l u ∙ ap (λ m. option_map (λ f. record { code = code_of f; line = m; host = Some h }) (option_map fault_view u)) line
      ∙ ap (λ o. option_map (λ f. record { code = code_of f; line = v.visited.line; host = Some h }) o)
      (sym (fault ∙ no_handler (option_map fault_view u) (names_something (all_notified v.setting.handlers v.visited.notifies)) n))

-- one visit
pub one_found : (h : Name) (view : Slots) (v : Visit) (f g k : Find) (o : Option FaultAt) → (names_something (all_notified v.setting.handlers v.visited.notifies) ≡ true → offence_of h o ≡ visit_offence h v)
    → offence_of h g.fault ≡ lesser (offence_of h f.fault) (offence_of h o) → next_of g ≡ next_of f → g.is_settled ≡ f.is_settled → g.is_same ≡ f.is_same
    → Written (task_writes v.setting v.visited v.env) view g k → Finds h view (v ∷ []) f k
one_found h view v f g k o e i a b c x =
    let r = task_writes v.setting v.visited v.env in
    record {
      fault = λ n. ap (offence_of h) x.fault ∙ i ∙ ap (lesser (offence_of h f.fault)) (e n.0 ∙ sym (lesser_none (visit_offence h v)));
      next = subst (λ (ss : Slots). SlotsAgree (next_of k) (with_writes r ss)) a x.next;
      well = x.well;
      settled = x.settled ∙ ap (λ q. q && writes_below r view) b ∙ ap (λ q. f.is_settled && q) (and_true (writes_below r view));
      same = λ q. let p = x.same q in (sym c ∙ p.0, p.1 ∙ a);
    }

pub known_well : (e : Exit) → WellExit e → Well (recs (known_of e))
known_well dead w = (refl, tt)
known_well (live env) w = w

pub alive_visits : (st : Setting) (t : Task) (e : Exit) → is_dead e ≡ false → record { setting = st; visited = t; env = known_of e } ∷ [] ≡ visits_at st t e
alive_visits st t dead h = absurd (cc)
alive_visits st t (live env) h = refl

pub dead_visits : (st : Setting) (t : Task) (e : Exit) → is_dead e ≡ true → [] ≡ visits_at st t e
dead_visits st t dead h = refl
dead_visits st t (live env) h = absurd (cc)

-- what is known at each node is well formed
pub values_well : (s : Shared) (es : List Environment) (m : ℕ) → ((k : ℕ) → k < length es → Stands s (slice_index_or es k nothing_known)) → WellExit (value_at s es m)
values_well s [] m h = tt
values_well s (e ∷ es) zero h = stands_well s e (h 0 (omega arith))
values_well s (e ∷ es) (suc m) h = values_well s es m (λ k lt. h (suc k) (omega arith))

-- a way's writes are well formed
here_writes : (st : Setting) (t : Task) (e : Exit) → WellViews st.views → WellExit e → WellWrites (visits_at st t e)
here_writes st t dead a w = tt
here_writes st t (live env) a w = ((after_claim st a t env w).2, tt)

append_writes : (vs us : List Visit) → WellWrites vs → WellWrites us → WellWrites (vs ++ us)
append_writes [] us a b = b
append_writes (v ∷ vs) us a b = (a.0, append_writes vs us a.1 b)

nodes_writes : (st : Setting) (ts : List Task) (val : ℕ → Exit) (n : ℕ) → WellViews st.views → ((m : ℕ) → WellExit (val m)) → WellWrites (nodes_visits st ts val n)
nodes_writes st [] val n a w = tt
nodes_writes st (t ∷ ts) val n a w = append_writes (visits_at st t (val n)) (nodes_visits st ts val (suc n)) (here_writes st t (val n) a (w n)) (nodes_writes st ts val (suc n) a w)

-- one node more
pub finds_node : (h : Name) (view : Slots) (st : Setting) (t : Task) (ts : List Task) (val : ℕ → Exit) (n : ℕ) (f g k : Find) → WellViews st.views → ((m : ℕ) → WellExit (val m)) → Well (recs (next_of f))
    → Finds h view (visits_at st t (val n)) f g → Finds h view (nodes_visits st ts val (suc n)) g k → Finds h view (nodes_visits st (t ∷ ts) val n) f k
finds_node h view st t ts val n f g k a w u x y =
    finds_then h view (visits_at st t (val n)) (nodes_visits st ts val (suc n)) f g k (here_writes st t (val n) a (w n)) (nodes_writes st ts val (suc n) a w) u x y
