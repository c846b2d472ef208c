-- What is kept for the hosts of a run shows the world of each.
use Rattle.std.proofs.Common.{◌≡◌, ◌∙◌, ℕ, zero, suc, ◌+◌, ◌<◌, List, [], ◌∷◌, length, get_or, Some, option_map, refl, sym, ap, subst, arith}
use Rattle.pb_semantics.specs.Data.{Fields, list, text}
use Rattle.pb_language.specs.Expression.{Name}
use Rattle.pb_language.specs.Machine.{innermost, outermost}
use Rattle.pb_language.specs.Program.{Batch, memberships_of}
use Rattle.pb_language.specs.Setting.{names_list}
use Rattle.pb_language.specs.Task.{Task}
use Rattle.pb_language.specs.World.{HostVariables}
use Rattle.pb_machine.specs.Hosts.{FlatHost}
use Rattle.pb_machine.specs.Run.{FlatState, host_at, variables_seen}
use Rattle.pb_inventory.specs.Inventory.{inventory_view}
use Rattle.pb_inventory.specs.Numbered.{name_of, named}
use Rattle.pb_value.specs.View.{view}
use Rattle.pb_world.specs.Hosts.{hosts_from, names_of_hosts}
use Rattle.pb_world.specs.RunWorld.{ShowsRun}
use Rattle.pb_world.specs.Variables.{given_variables, variables_at}
use Rattle.pb_world.specs.World.{Shows, failure_value, hosts_shown}
use Rattle.pb_world.specs.declared.constants.HostConstants.{HostConstants}
use Rattle.pb_world.specs.declared.run_world.RunWorld.{RunWorld}
use Rattle.pb_world.specs.declared.variables.Variables.{Variables}
use Rattle.pb_world.specs.declared.world.HostWorld.{HostWorld}
use Rattle.pb_world.proofs.HostLists.{host-value}

-- ---- the host at a place

names-shown : (f : ℕ → Fields) (k : ℕ) (hs : List HostVariables) → names_of_hosts (hosts_from f k hs) ≡ names_of_hosts hs
names-shown f k [] = refl
names-shown f k (h ∷ hs) = ap (λ ns. h.name ∷ ns) (names-shown f (suc k) hs)

variables-shown : (f : ℕ → Fields) (k : ℕ) (hs : List HostVariables) (p : ℕ) → p < length hs → given_variables (hosts_from f k hs) p ≡ f (k + p)
variables-shown f k [] p l = absurd (omega (arith, l))
variables-shown f k (h ∷ hs) zero l = let e : k ≡ k + 0 = omega arith in ap f e
variables-shown f k (h ∷ hs) (suc p) l = let e : suc k + p ≡ k + suc p = omega arith in variables-shown f (suc k) hs p (omega (arith, l)) ∙ ap f e

name-seen : (hs : List FlatHost) (p : ℕ) (h : FlatHost) → host_at p hs ≡ Some h → name_of (names_of_hosts (variables_seen hs)) p ≡ h.name
name-seen [] p h at = absurd (cc)
name-seen (x ∷ hs) zero h at = let same : x ≡ h = cc in ap (λ (y : FlatHost). y.name) same
name-seen (x ∷ hs) (suc p) h at = name-seen hs p h at

variables-seen : (hs : List FlatHost) (p : ℕ) (h : FlatHost) → host_at p hs ≡ Some h → given_variables (variables_seen hs) p ≡ h.variables
variables-seen [] p h at = absurd (cc)
variables-seen (x ∷ hs) zero h at = let same : x ≡ h = cc in ap (λ (y : FlatHost). y.variables) same
variables-seen (x ∷ hs) (suc p) h at = variables-seen hs p h at

-- ---- its world

module _ (r : RunWorld) (w : HostWorld) (s : FlatState) (b : Batch) (h : FlatHost) (t : Task) (x : HostConstants) (runs : ShowsRun r s b) (there : host_at w.host s.hosts ≡ Some h)
    (variables : w.variables.now ≡ r.variables) (active : w.active.now ≡ r.active.now) (within : w.host < length (inventory_view r.variables.inventory.now).hosts)
    (own : x ≡ get_or r.constants.now.hosts.items w.host x) where
  held : (hosts_shown r.variables) ≡ variables_seen s.hosts
  held = runs.hosts

  name : name_of (names_of_hosts s.inventory.hosts) w.host ≡ h.name
  name =
      ap (λ i. name_of (names_of_hosts i.hosts) w.host) (sym runs.inventory) ∙ ap (λ ns. name_of ns w.host) (sym (names-shown (variables_at r.variables) 0 (inventory_view r.variables.inventory.now).hosts))
      ∙ ap (λ hs. name_of (names_of_hosts hs) w.host) held ∙ name-seen s.hosts w.host h there

  own-variables : variables_at w.variables.now w.host ≡ h.variables
  own-variables =
      let e : w.host ≡ 0 + w.host = omega arith in
      ap (λ v. variables_at v w.host) variables ∙ ap (variables_at r.variables) e ∙ sym (variables-shown (variables_at r.variables) 0 (inventory_view r.variables.inventory.now).hosts w.host within)
      ∙ ap (λ hs. given_variables hs w.host) held ∙ variables-seen s.hosts w.host h there

  few : w.host < length r.constants.now.hosts.items
  few = subst (λ n. w.host < n) (sym r.each_constant) within

  own-name : view x.name ≡ text h.name
  own-name = host-value (λ (c : HostConstants). view c.name) text r.constants.now.hosts.items (names_of_hosts s.inventory.hosts) w.host x runs.constants.names few own ∙ ap text name

  own-groups : view x.group_names ≡ list (names_list (memberships_of h.name s.inventory.groups))
  own-groups =
      let listed = λ (n : Name). list (names_list (memberships_of n s.inventory.groups)) in
      host-value (λ (c : HostConstants). view c.group_names) listed r.constants.now.hosts.items (names_of_hosts s.inventory.hosts) w.host x runs.constants.group_names few own ∙ ap listed name

  pub shows-host : view w.always.host_name.now ≡ view x.name → view w.always.groups.now ≡ view r.constants.now.groups → view w.always.group_names.now ≡ view x.group_names → view w.always.play_batch.now ≡ view r.play_batch.now
      → option_map (λ v. view v.now) w.always.failure ≡ failure_value t.depth (innermost (outermost t.depth h.rescues)) → Shows w s b h t
  shows-host host_name groups group_names play_batch failure = record {
    inventory = ap (λ (v : Variables). inventory_view v.inventory.now) variables ∙ runs.inventory;
    name = name;
    variables = own-variables;
    hosts = ap hosts_shown variables ∙ held;
    active = ap (λ a. named (names_of_hosts s.inventory.hosts) a.members) active ∙ runs.active;
    host_name = host_name ∙ own-name;
    groups = groups ∙ runs.constants.groups;
    group_names = group_names ∙ own-groups;
    play_batch = play_batch ∙ runs.play_batch ∙ ap (λ ns. list (names_list ns)) runs.active;
    failure = failure;
  }
