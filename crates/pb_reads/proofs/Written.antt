-- The names that a task registers or sets.
use Rattle.std.proofs.Common.{◌≡◌, ◌∙◌, ℕ, ◌+◌, ◌<◌, List, [], ◌∷◌, ◌++◌, Bool, true, false, ◌&&◌, ◌||◌, not, codes, cond, Option, drop, get_or, length, string_bytes, refl, sym, ap, arith, append-nil}
use Rattle.pb_semantics.specs.Keeps.{is_among}
use Rattle.pb_semantics.specs.Kind.{Slots, Spot, anything, booleans, hosts, ints, lists, never, no_slots, nowhere, nulls, recs, results, slot, slot_at, spot, texts}
use Rattle.pb_language.specs.Book.{Registry}
use Rattle.pb_language.specs.Cases.{facts_set, gathered, is_certain_to_run, is_setup, may_go_on_failed, no_sets, shape_slots}
use Rattle.pb_language.specs.Expansion.{parts_expanded, trees}
use Rattle.pb_language.specs.Expression.{Name, Expression, Parts, no_parts, part}
use Rattle.pb_language.specs.Plays.{action_of, module_named}
use Rattle.pb_language.specs.Rules.{option_names, part_names, set_names}
use Rattle.pb_language.specs.Scope.{Scope, nothing}
use Rattle.pb_language.specs.Task.{Task}
use Rattle.pb_sig.specs.ModuleView.{known_view}
use Rattle.pb_syntax.proofs.Left.{drop-at}
use Rattle.pb_task.specs.Tasks.{task_view, work_view}
use Rattle.pb_task.specs.declared.task.Work.{Work}
use Rattle.pb_task.specs.declared.task.Work.TheVariants as works
use Rattle.pb_template.specs.Entries.{entries_view}
use Rattle.pb_template.specs.declared.entry.Entry.{Entry}
use Rattle.pb_transfer.specs.Written.{sets_view}
use Rattle.pb_transfer.specs.declared.written.Set.{Set}
use Rattle.pb_vars.specs.InScope.{in_scope}
use Rattle.pb_route.specs.Station.{IsStation, facts_of, stands_round, station_task}
use Rattle.pb_route.specs.declared.station.Station.{Station}
use Rattle.pb_reads.specs.Uses.{action_names, names_set, written_by}
use Rattle.pb_reads.proofs.Gathered.{moved}
use Rattle.pb_reads.proofs.Reached.{among-both}

-- one name of a list more
pub entry-next : (n : Name) (es : List Entry) (i : ℕ) (e : Entry) (k : Name) (old new : List Name) (q : Bool) → i < length es → e ≡ get_or es i e → k ≡ string_bytes e.name.value → is_among n new ≡ is_among n (k ∷ old)
    → is_among n (part_names (entries_view (drop i es)) ++ old) ≡ q → is_among n (part_names (entries_view (drop (i + 1) es)) ++ new) ≡ q
entry-next n es i e k old new q lt at name h inv =
    moved n (string_bytes e.name.value ∷ []) (part_names (entries_view (drop (i + 1) es))) old new (h ∙ ap (λ m. is_among n (m ∷ old)) name)
    ∙ ap (λ xs. is_among n (part_names (entries_view xs) ++ old)) (sym (drop-at es i e lt at)) ∙ inv

pub fact-next : (n : Name) (ss : List Set) (i : ℕ) (s : Set) (k : Name) (old new : List Name) (q : Bool) → i < length ss → s ≡ get_or ss i s → k ≡ string_bytes s.name.value → is_among n new ≡ is_among n (k ∷ old)
    → is_among n (names_set (sets_view (drop i ss)) ++ old) ≡ q → is_among n (names_set (sets_view (drop (i + 1) ss)) ++ new) ≡ q
fact-next n ss i s k old new q lt at name h inv =
    moved n (string_bytes s.name.value ∷ []) (names_set (sets_view (drop (i + 1) ss))) old new (h ∙ ap (λ m. is_among n (m ∷ old)) name)
    ∙ ap (λ xs. is_among n (names_set (sets_view xs) ++ old)) (sym (drop-at ss i s lt at)) ∙ inv

same-parts : (f : Name → Option Expression) (ps : Parts) → part_names (parts_expanded f ps) ≡ part_names ps
same-parts f no_parts = refl
same-parts f (part n e ps) = ap (λ ns. n ∷ ns) (same-parts f ps)

-- the names don't depend on whether they are set for certain
same-facts : (a b : Bool) (ss : Slots) → names_set (facts_set a ss) ≡ names_set (facts_set b ss)
same-facts a b no_slots = refl
same-facts a b (slot n p k ss) = ap (λ ns. n ∷ ns) (same-facts a b ss)

same-gathered : (a b : Bool) (s : Spot) → names_set (gathered a s) ≡ names_set (gathered b s)
same-gathered a b nowhere = refl
same-gathered a b (spot p never) = refl
same-gathered a b (spot p nulls) = refl
same-gathered a b (spot p booleans) = refl
same-gathered a b (spot p ints) = refl
same-gathered a b (spot p texts) = refl
same-gathered a b (spot p (hosts ns)) = refl
same-gathered a b (spot p (lists k m)) = refl
same-gathered a b (spot p (recs ss)) = ap (λ ns. codes "ansible_facts" ∷ ns) (same-facts (a && p) (b && p) ss)
same-gathered a b (spot p (results cs k)) = refl
same-gathered a b (spot p anything) = refl

of-module : (b a : Bool) (s : Spot) → names_set (cond b (gathered a s) no_sets) ++ [] ≡ cond b (names_set (gathered true s)) []
of-module true a s = append-nil (names_set (gathered a s)) ∙ same-gathered a true s
of-module false a s = refl

-- the facts and what the work sets are what the action sets
named : (t : Task) (c : Scope) (ms : Registry) (f : Name → Option Expression) (w : Work) (ps : Parts)
    → names_set (facts_of t (action_of ms f (work_view w ps)) c) ++ set_names (work_view w ps) ≡ action_names (action_of ms f (work_view w ps))
named t c ms f (works.Module m) ps =
    let called = module_named (known_view m.value).name ms in
    of-module (is_setup called) (is_certain_to_run t && not (may_go_on_failed t)) (slot_at (codes "ansible_facts") (shape_slots called.ok))
named t c ms f works.Debug ps = refl
named t c ms f works.SetFact ps = sym (same-parts f ps)
named t c ms f (works.Assert a) ps = refl
named t c ms f works.Fail ps = refl

-- any scope
some_scope : Scope
some_scope = record {
  own = no_slots;
  this = [];
  table = [];
  groups = [];
  laters = [];
  place = 0;
  own_slots = no_slots;
  views = [];
  learned = nothing;
  present = [];
  active = [];
  item_slots = no_slots;
  item_active = false;
}

turned : (r s f : Bool) → (r || (s || (f || false))) ≡ (r || (f || s))
turned r s f = grind arith

-- what is added in turn is what the task writes
pub all-written : (n : Name) (s : Station) (none facts set all : List Name) → IsStation s → none ≡ [] → is_among n facts ≡ is_among n (names_set (sets_view s.facts.items) ++ none)
    → is_among n set ≡ is_among n (set_names (task_view s.task.now).work ++ facts) → is_among n all ≡ is_among n (option_names (station_task s).register ++ set) → is_among n all ≡ is_among n (written_by (station_task s))
all-written n s none facts set all station empty one two three =
    let t = station_task s in
    let k = task_view s.task.now in
    let fs = names_set (sets_view s.facts.items) in
    let first : is_among n facts ≡ (is_among n fs || false) = one ∙ ap (λ ns. is_among n (fs ++ ns)) empty ∙ among-both n fs [] in
    let told : fs ++ set_names k.work ≡ action_names t.action =
    ap (λ ss. names_set ss ++ set_names k.work) (station.facts some_scope) ∙ named t some_scope (stands_round s).registry (trees (in_scope s.vars)) s.task.now.work (entries_view s.task.now.arguments.items) in
    three ∙ among-both n (option_names t.register) set ∙ ap (λ b. is_among n (option_names t.register) || b) (two ∙ among-both n (set_names k.work) facts ∙ ap (λ b. is_among n (set_names k.work) || b) first)
    ∙ turned (is_among n (option_names t.register)) (is_among n (set_names k.work)) (is_among n fs)
    ∙ ap (λ b. is_among n (option_names t.register) || b) (sym (among-both n fs (set_names k.work)) ∙ ap (is_among n) told) ∙ sym (among-both n (option_names t.register) (action_names t.action))
