-- Wherever a host of a book comes that keeps the rules, texts that notify name handlers, and so it is in walks that agree.
use Rattle.std.proofs.Common.{List, [], ◌∷◌, ◌++◌, Bool, true, false, cond, sym, ap, ◌∙◌, subst}
use Rattle.pb_semantics.specs.Keeps.{is_among}
use Rattle.pb_language.specs.Expression.{Name}
use Rattle.pb_language.specs.World.{HostVariables}
use Rattle.pb_language.specs.Kinds.{known_slots}
use Rattle.pb_language.specs.Scope.{Later, View}
use Rattle.pb_language.specs.Notify.{all_notified, names_something}
use Rattle.pb_language.specs.Plays.{program_of}
use Rattle.pb_language.specs.Task.{Task, Handlers, no_handlers, handler, Row, end, task, flush, section, block}
use Rattle.pb_language.specs.Setting.{Setting}
use Rattle.pb_language.specs.Judgement.{Exit, dead, live}
use Rattle.pb_language.specs.Walk.{Visit, visits_at, walk}
use Rattle.pb_language.specs.Nodes.{FlushValues, Values, values, flush_visits, visits_of}
use Rattle.pb_language.specs.Program.{Inventory, Play, Program, setting_of}
use Rattle.pb_language.specs.Tables.{PlayWalk, first_laters, other_laters, plays_walked, hosts_walked}
use Rattle.pb_language.proofs.Walks.{walk_visits}
use Rattle.pb_walks.specs.Agree.{VisitsAgree, AllVisitsAgree, AllPlaysAgree}
use Rattle.pb_walks.specs.Notified.{AllNameHandlers, PlaysNameHandlers, HostsNameHandlers, RuledNameHandlers, AgreeingNameHandlers}
use Rattle.pb_walks.proofs.NamedRows.{Named, HandlersNamed, RowNamed, ProgramNamed, program_named}

both_named : (xs ys : List Visit) → AllNameHandlers xs → AllNameHandlers ys → AllNameHandlers (xs ++ ys)
both_named [] ys a b = b
both_named (x ∷ xs) ys a b = (a.0, both_named xs ys a.1 b)

-- the visits of a row, whatever is known at its nodes
module _ (st : Setting) where
  here_named : (t : Task) (e : Exit) → Named st.handlers t → AllNameHandlers (visits_at st t e)
  here_named t dead h = tt
  here_named t (live env) h = (h, tt)

  flush_named : (hs : Handlers) (vs : FlushValues hs) → HandlersNamed st.handlers hs → AllNameHandlers (flush_visits st hs vs)
  flush_named no_handlers vs h = tt
  flush_named (handler n t hs) vs h = both_named (visits_at st t vs.0) (flush_visits st hs vs.1) (here_named t vs.0 h.0) (flush_named hs vs.1 h.1)

  visits_named : (row : Row) (vs : Values row) → RowNamed st.handlers row → AllNameHandlers (visits_of st row vs)
  visits_named end vs h = tt
  visits_named (task t row) vs h = both_named (visits_at st t vs.0) (visits_of st row vs.1) (here_named t vs.0 h.0) (visits_named row vs.1 h.1)
  visits_named (flush hs row) vs h = both_named (flush_visits st hs vs.0) (visits_of st row vs.1) (flush_named hs vs.0 h.0) (visits_named row vs.1 h.1)
  visits_named (section body hs row) vs h =
      let first = flush_visits st hs vs.1 in
      let second = flush_visits st hs vs.2 in
      let rest = visits_of st row vs.3 in
      both_named (visits_of st body vs.0) (first ++ (second ++ rest)) (visits_named body vs.0 h.0)
      (both_named first (second ++ rest) (flush_named hs vs.1 h.1) (both_named second rest (flush_named hs vs.2 h.1) (visits_named row vs.3 h.2)))
  visits_named (block d body saves rescued always row) vs h =
      let saved = visits_of st rescued vs.1 in
      let first = visits_of st always vs.2 in
      let second = visits_of st always vs.3 in
      let rest = visits_of st row vs.4 in
      both_named (visits_of st body vs.0) (saved ++ (first ++ (second ++ rest))) (visits_named body vs.0 h.0)
      (both_named saved (first ++ (second ++ rest)) (visits_named rescued vs.1 h.1)
      (both_named first (second ++ rest) (visits_named always vs.2 h.2) (both_named second rest (visits_named always vs.3 h.2) (visits_named row vs.4 h.3))))

  walk_named : (row : Row) (e : Exit) → RowNamed st.handlers row → AllNameHandlers (walk st row e).visits
  walk_named row e h = subst AllNameHandlers (sym (walk_visits st row e)) (visits_named row (values st row e) h)

-- a host's ways through the plays
module _ (inventory : Inventory) (views : List View) where
  plays_step : (q : Bool) (n : Name) (p : Play) (l : List Later) (e : Exit) (more : Exit → List PlayWalk) (rest : List PlayWalk) → RowNamed p.handlers p.row → ((x : Exit) → PlaysNameHandlers (more x)) → PlaysNameHandlers rest
      → PlaysNameHandlers (cond q (record { play = p; walked = walk (setting_of inventory p views l n) p.row e } ∷ more (walk (setting_of inventory p views l n) p.row e).well) rest)
  plays_step true n p l e more rest h f r = (walk_named (setting_of inventory p views l n) p.row e h, f (walk (setting_of inventory p views l n) p.row e).well)
  plays_step false n p l e more rest h f r = r

  plays_named : (ps : Program) (n : Name) (e : Exit) (ls : List (List Later)) → ProgramNamed ps → PlaysNameHandlers (plays_walked inventory views n e ps ls)
  plays_named [] n e ls h = tt
  plays_named (p ∷ ps) n e ls h =
      plays_step (is_among n p.hosts) n p (first_laters ls) e (λ x. plays_walked inventory views n x ps (other_laters ls)) (plays_walked inventory views n e ps (other_laters ls)) h.0
      (λ x. plays_named ps n x (other_laters ls) h.1) (plays_named ps n e (other_laters ls) h.1)

  hosts_named : (ps : Program) (ls : List (List Later)) (xs : List HostVariables) → ProgramNamed ps → HostsNameHandlers (hosts_walked inventory views ps ls xs)
  hosts_named ps ls [] h = tt
  hosts_named ps ls (x ∷ xs) h = (plays_named ps x.name (live (known_slots x.variables)) ls h, hosts_named ps ls xs h)

pub ruled_name_handlers : RuledNameHandlers
ruled_name_handlers ms inventory b views ls none = hosts_named inventory views (program_of ms inventory b) ls inventory.hosts (program_named ms inventory b none)

-- walks that agree visit the same tasks under the same handlers
visit_named : (v w : Visit) → VisitsAgree v w → Named w.setting.handlers w.visited → Named v.setting.handlers v.visited
visit_named v w a h =
    ap (λ t. names_something (all_notified v.setting.handlers t.notifies)) a.visited ∙ (ap (λ (s : Setting). names_something (all_notified s.handlers w.visited.notifies)) (sym a.settings.first.same) ∙ h)

agreeing_visits : (vs us : List Visit) → AllVisitsAgree vs us → AllNameHandlers us → AllNameHandlers vs
agreeing_visits [] [] a h = tt
agreeing_visits [] (u ∷ us) a h = absurd a
agreeing_visits (v ∷ vs) [] a h = absurd a
agreeing_visits (v ∷ vs) (u ∷ us) a h = (visit_named v u a.0 h.0, agreeing_visits vs us a.1 h.1)

pub agreeing_plays : (ws xs : List PlayWalk) → AllPlaysAgree ws xs → PlaysNameHandlers xs → PlaysNameHandlers ws
agreeing_plays [] [] a h = tt
agreeing_plays [] (x ∷ xs) a h = absurd a
agreeing_plays (w ∷ ws) [] a h = absurd a
agreeing_plays (w ∷ ws) (x ∷ xs) a h = (agreeing_visits w.walked.visits x.walked.visits a.0.visits h.0, agreeing_plays ws xs a.1 h.1)

pub agreeing_name_handlers : AgreeingNameHandlers
agreeing_name_handlers [] [] a h = tt
agreeing_name_handlers [] (x ∷ xs) a h = absurd a
agreeing_name_handlers (w ∷ ws) [] a h = absurd a
agreeing_name_handlers (w ∷ ws) (x ∷ xs) a h = (agreeing_plays w.plays x.plays a.0.plays h.0, agreeing_name_handlers ws xs a.1 h.1)
