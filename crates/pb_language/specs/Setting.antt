-- What a host's task is judged in: the names that are always there, and those of the task
-- (Ansible's page on special variables).
use Rattle.std.specs.Prelude.{ℕ, zero, suc, List, [], ◌∷◌, true, false, Option, Some, None, codes}
use Rattle.std.specs.Prelude.{length}
use Rattle.pb_semantics.specs.Data.{Data, Items, Fields, text, list, rec, no_items, item, no_fields}
use Rattle.pb_semantics.specs.Data.{field}
use Rattle.pb_semantics.specs.Kind.{KindData, Slots, Cases, texts, hosts, lists, recs, no_slots}
use Rattle.pb_semantics.specs.Kind.{slot}
use Rattle.pb_semantics.specs.Join.{add_names}
use Rattle.pb_language.specs.Expression.{Name, Expression}
use Rattle.pb_language.specs.World.{Group}
use Rattle.pb_language.specs.Scope.{Scope, View, Later, nothing, with_slot}
use Rattle.pb_language.specs.Kinds.{kind_of}
use Rattle.pb_language.specs.Narrow.{results_of, narrow_each}
use Rattle.pb_language.specs.Notify.{HandlerNames}
use Rattle.pb_language.specs.Task.{Task}
use Rattle.pb_language.specs.Cases.{answered_cases, judged_cases, item_kind}

-- a host in a play
pub record Setting : Type 0 where
  pub this : Name
  pub groups : List Group
  -- the groups that the host is in
  pub memberships : List Name
  pub play_hosts : List Name
  pub handlers : List HandlerNames
  pub views : List View
  -- what active hosts have from each place on; nothing under `free`
  pub laters : List Later

-- a list of hosts, each one of these; a kind has their names in the order of the bytes
abbrev pub host_list : List Name → KindData
host_list ns = lists (hosts (add_names ns [])) (length ns)

abbrev pub group_slots : List Group → Slots
group_slots [] = no_slots
group_slots (g ∷ gs) = with_slot g.name true (host_list g.hosts) (group_slots gs)

-- inside a `rescue` part the failure's text can be read
abbrev pub with_failure_slot : ℕ → Slots → Slots
with_failure_slot zero env = env
with_failure_slot (suc d) env = with_slot (codes "ansible_failed_result") true
    (recs (slot (codes "msg") true texts no_slots)) env

abbrev pub named_slots : Setting → ℕ → Slots → Slots
named_slots st d env =
    with_slot (codes "inventory_hostname") true (hosts (st.this ∷ []))
    (with_slot (codes "groups") true (recs (group_slots st.groups))
    (with_slot (codes "group_names") true (lists texts (length st.memberships))
    (with_slot (codes "ansible_play_batch") true (host_list st.play_hosts)
    (with_failure_slot d env))))

-- what is known before any test
abbrev pub scope_at : Setting → List Later → ℕ → Slots → Scope
scope_at st laters place own = record {
  own = own;
  this = st.this;
  table = st.views;
  groups = st.groups;
  laters = laters;
  place = place;
  own_slots = no_slots;
  views = [];
  learned = nothing;
  present = [];
  active = [];
  item_slots = no_slots;
  item_active = false;
}

abbrev pub start_scope : Setting → Task → Slots → Scope
start_scope st t env = scope_at st st.laters t.place (named_slots st t.depth env)

-- the kind of the loop, where there is one
abbrev pub loop_kind : Scope → Option Expression → Option KindData
loop_kind c None = None
loop_kind c (Some e) = Some (kind_of c e)

abbrev pub with_item : Option KindData → Slots → Slots
with_item None env = env
with_item (Some k) env = with_slot (codes "item") true (item_kind k) env

-- a task's scope for one item, before its conditions
abbrev pub item_scope : Setting → Task → Slots → Scope
item_scope st t env = record (start_scope st t env)
    { own = with_item (loop_kind (start_scope st t env) t.loop) (named_slots st t.depth env) }

-- and where they hold
abbrev pub action_scope : Setting → Task → Slots → Scope
action_scope st t env = narrow_each (item_scope st t env) t.conditions true

abbrev pub with_own_result : Option Name → Cases → Slots → Slots
with_own_result None cs env = env
with_own_result (Some n) cs env = with_slot n true (results_of cs) env

-- what is asked of a result sees it under the name that the task registers, and nothing of the
-- batch
abbrev pub own_scope : Setting → Task → Cases → Slots → Scope
own_scope st t cs env = scope_at st [] t.place
    (with_own_result t.register cs
    (with_item (loop_kind (start_scope st t env) t.loop) (named_slots st t.depth env)))

-- `changed_when` and `failed_when` see the item's own result as it was answered, `until` sees it
-- with its statuses
abbrev pub give_scope : Setting → Task → Slots → Scope
give_scope st t env = own_scope st t (answered_cases t.action) env

abbrev pub until_scope : Setting → Task → Slots → Scope
until_scope st t env = own_scope st t (judged_cases t.action t.failed_when) env

abbrev pub names_list : List Name → Items
names_list [] = no_items
names_list (n ∷ ns) = item (text n) (names_list ns)

abbrev pub group_fields : List Group → Fields
group_fields [] = no_fields
group_fields (g ∷ gs) = field g.name (list (names_list g.hosts)) (group_fields gs)

abbrev pub with_failure : ℕ → List ℕ → Fields → Fields
with_failure zero s fs = fs
with_failure (suc d) s fs =
    field (codes "ansible_failed_result") (rec (field (codes "msg") (text s) no_fields)) fs

-- a host's own names: those that are always there, and its variables
abbrev pub named_fields : Setting → ℕ → List ℕ → List Name → Fields → Fields
named_fields st d s batch fs =
    field (codes "inventory_hostname") (text st.this)
    (field (codes "groups") (rec (group_fields st.groups))
    (field (codes "group_names") (list (names_list st.memberships))
    (field (codes "ansible_play_batch") (list (names_list batch)) (with_failure d s fs))))

abbrev pub with_local : Name → Option Data → Fields → Fields
with_local n None fs = fs
with_local n (Some d) fs = field n d fs
