-- The worlds of tasks are those of the state.
use Rattle.std.proofs.Common.{◌≡◌, ◌<◌, ℕ, zero, suc, ◌+◌, List, [], ◌∷◌, length, map, Vec, true, false, nat_lt, Option, Some, None, is_some, slice_get, unwrap_or, refl, sym, ap, ap₂, subst, ◌∙◌, arith}
use Rattle.std.specs.List.{list_all}
use Rattle.std.specs.declared.alloc.Global.{Global}
use Rattle.std.proofs.lemmas.Bool.{ltb-true}
use Rattle.std.proofs.lemmas.List.{length-map}
use Rattle.pb_semantics.proofs.Bools.{and-left, and-right}
use Rattle.pb_semantics.specs.Data.{Fields}
use Rattle.pb_language.specs.Expression.{Name}
use Rattle.pb_language.specs.Program.{Batch}
use Rattle.pb_language.specs.World.{HostVariables}
use Rattle.pb_machine.specs.Hosts.{FlatHost}
use Rattle.pb_machine.specs.Run.{FlatState, host_at, variables_seen}
use Rattle.pb_inventory.specs.Numbered.{name_of, named}
use Rattle.pb_slots.specs.Words.{names_of_slots}
use Rattle.pb_start.specs.declared.passes.Pass.{Pass}
use Rattle.pb_world.specs.Constants.{AreConstants}
use Rattle.pb_world.specs.Hosts.{hosts_from, names_of_hosts}
use Rattle.pb_world.specs.RunWorld.{ShowsRun}
use Rattle.pb_world.specs.Variables.{host_variables}
use Rattle.pb_core.specs.Readings.{Reading}
use Rattle.pb_core.specs.Cores.{size_of}
use Rattle.pb_core.specs.Hosts.{IsHostAt}
use Rattle.pb_core.specs.Events.{active_in}
use Rattle.pb_core.specs.declared.host.HostState.{HostState}
use Rattle.pb_jobs.specs.Scenes.{IsKept, IsScene, Kept, hosts_of, kept_by}
use Rattle.pb_jobs.specs.declared.scene.RunScene.{RunScene}

-- as many hosts as there are states of hosts
pub as_many : {A : Type 0} → (xs : List A) (hs : List FlatHost) → ((i : ℕ) → is_some (slice_get xs i) ≡ is_some (host_at i hs)) → length hs ≡ length xs
as_many [] [] same = refl
as_many [] (h ∷ hs) same = let clash : false ≡ true = same 0 in cc
as_many (x ∷ xs) [] same = let clash : true ≡ false = same 0 in cc
as_many (x ∷ xs) (h ∷ hs) same = let rest = as_many xs hs (λ i. same (suc i)) in omega (arith, rest)

-- the hosts as another one sees them
pub seen_from : (f : ℕ → Fields) (nm : ℕ → Name) (j : ℕ) (xs : List HostVariables) (hs : List FlatHost) → length hs ≡ length xs
    → ((i : ℕ) (h : FlatHost) → host_at i hs ≡ Some h → (h.name ≡ nm (j + i)) × (h.variables ≡ f (j + i)))
    → ((i : ℕ) (x : HostVariables) → slice_get xs i ≡ Some x → x.name ≡ nm (j + i))
    → hosts_from f j xs ≡ variables_seen hs
seen_from f nm j [] [] e are given = refl
seen_from f nm j [] (h ∷ hs) e are given = absurd (omega (arith, e))
seen_from f nm j (x ∷ xs) [] e are given = absurd (omega (arith, e))
seen_from f nm j (x ∷ xs) (h ∷ hs) e are given =
    let here = are 0 h refl in
    let start : j + 0 ≡ j = omega arith in
    let name : x.name ≡ h.name = given 0 x refl ∙ sym here.0 in
    let variables : f j ≡ h.variables = ap f (sym start) ∙ sym here.1 in
    let rest = seen_from f nm (suc j) xs hs (omega (arith, e))
    (λ i g at. subst (λ n. (g.name ≡ nm n) × (g.variables ≡ f n)) (omega arith) (are (suc i) g at))
    (λ i y at. subst (λ n. y.name ≡ nm n) (omega arith) (given (suc i) y at)) in
    ap₂ (λ n v. record { name = n; variables = v } ∷ hosts_from f (suc j) xs) name variables ∙ ap (λ ys. record { name = h.name; variables = h.variables } ∷ ys) rest

-- names by numbers
pub names_same : (nm : ℕ → Name) (ns : List Name) (ms : List ℕ) → ((i : ℕ) → i < length ns → nm i ≡ name_of ns i) → list_all (λ m. nat_lt m (length ns)) ms ≡ true → named ns ms ≡ map nm ms
names_same nm ns [] same within = refl
names_same nm ns (m ∷ ms) same within =
    let here = and-left (nat_lt m (length ns)) (list_all (λ i. nat_lt i (length ns)) ms) within in
    ap₂ (λ x xs. x ∷ xs) (sym (same m (ltb-true m (length ns) here)))
    (names_same nm ns ms same (and-right (nat_lt m (length ns)) (list_all (λ i. nat_lt i (length ns)) ms) within))

pub name_there : (xs : List HostVariables) (i : ℕ) (x : HostVariables) → slice_get xs i ≡ Some x → (i < length xs) × (name_of (names_of_hosts xs) i ≡ x.name)
name_there [] i x e = cc
name_there (y ∷ xs) zero x e = (omega arith, ap (λ o. (unwrap_or o y).name) e)
name_there (y ∷ xs) (suc i) x e = let rest = name_there xs i x e in (omega (arith, rest.0), rest.1)

-- a state of the core, by its hosts
module _ (k : Kept) (reading : Reading (Vec Pass Global)) (s : FlatState) (kept : IsKept k reading s) where
  pub host_is : (i : ℕ) (h : FlatHost) → host_at i s.hosts ≡ Some h → (h.name ≡ reading.name i) × (h.variables ≡ reading.variables i)
  host_is i h e = by (slice_get k.core.hosts.items i) (subst (λ o. IsHostAt reading (size_of s.batches) i (slice_get k.core.hosts.items i) o) e (kept.core.hosts i)) where
    by : (o : Option (HostState (Vec Pass Global))) → IsHostAt reading (size_of s.batches) i o (Some h) → (h.name ≡ reading.name i) × (h.variables ≡ reading.variables i)
    by None j = absurd j
    by (Some x) j = (j.name_is, j.variables)

  both_there : (i : ℕ) → is_some (slice_get k.core.hosts.items i) ≡ is_some (host_at i s.hosts)
  both_there i = by (slice_get k.core.hosts.items i) (host_at i s.hosts) (kept.core.hosts i) where
    by : (o : Option (HostState (Vec Pass Global))) (p : Option FlatHost) → IsHostAt reading (size_of s.batches) i o p → is_some o ≡ is_some p
    by None None j = refl
    by (Some x) (Some h) j = refl
    by None (Some h) j = absurd j
    by (Some x) None j = absurd j

  pub hosts_many : length s.hosts ≡ length (hosts_of k)
  hosts_many = as_many k.core.hosts.items s.hosts both_there ∙ kept.count

  pub seen_is : hosts_from (host_variables (hosts_of k) (names_of_slots k.slots) k.facts) 0 (hosts_of k) ≡ variables_seen s.hosts
  seen_is = seen_from (host_variables (hosts_of k) (names_of_slots k.slots) k.facts) reading.name 0 (hosts_of k) s.hosts hosts_many
      (λ i h e. let is = host_is i h e in let zero_first : 0 + i ≡ i = omega arith in subst (λ n. (h.name ≡ reading.name n) × (h.variables ≡ host_variables (hosts_of k) (names_of_slots k.slots) k.facts n)) (sym zero_first) (is.0, is.1 ∙ kept.reads.variables i))
      (λ i x e. let there = name_there (hosts_of k) i x e in let zero_first : 0 + i ≡ i = omega arith in subst (λ n. x.name ≡ reading.name n) (sym zero_first) (sym there.1 ∙ sym (kept.reads.name i there.0)))

  at_within : (i : ℕ) (h : FlatHost) (hs : List FlatHost) → host_at i hs ≡ Some h → i < length hs
  at_within i h [] e = cc
  at_within zero h (x ∷ hs) e = omega arith
  at_within (suc i) h (x ∷ hs) e = let rest = at_within i h hs e in omega (arith, rest)

  look_up : (i : ℕ) (xs : List HostVariables) → i < length xs → (x : HostVariables) × (slice_get xs i ≡ Some x)
  look_up i [] l = absurd (omega (arith, l))
  look_up zero (x ∷ xs) l = (x, refl)
  look_up (suc i) (x ∷ xs) l = look_up i xs (omega (arith, l))

  -- a host of the state is one of the inventory
  pub given_there : (i : ℕ) (h : FlatHost) → host_at i s.hosts ≡ Some h → (x : HostVariables) × (slice_get (hosts_of k) i ≡ Some x) × (x.name ≡ h.name)
  given_there i h e =
      let within : i < length (hosts_of k) = let l = at_within i h s.hosts e in omega (arith, l, hosts_many) in
      let x = look_up i (hosts_of k) within in
      let there = name_there (hosts_of k) i x.0 x.1 in
      (x.0, x.1, sym there.1 ∙ sym (kept.reads.name i within) ∙ sym (host_is i h e).0)

-- what is seen of a batch
pub runs_shown : (c : RunScene) (reading : Reading (Vec Pass Global)) (s : FlatState) (b : Batch) (later : List Batch) → IsScene c reading s → s.batches ≡ b ∷ later → ShowsRun c.world s b
runs_shown c reading s b later scene e = record {
  inventory = sym scene.kept.inventory;
  constants = subst (λ i. AreConstants i c.world.constants.now) (sym scene.kept.inventory) scene.kept.constants;
  hosts = seen_is (kept_by c) reading s scene.kept;
  active =
      ap (λ i. named (names_of_hosts i.hosts) c.world.active.now.members) scene.kept.inventory
      ∙ names_same reading.name (names_of_hosts (hosts_of (kept_by c))) c.world.active.now.members (λ i l. scene.kept.reads.name i (omega (arith, l, length-map (hosts_of (kept_by c)) (λ h. h.name))))
      (subst (λ n. list_all (λ m. nat_lt m n) c.world.active.now.members ≡ true) (sym (length-map (hosts_of (kept_by c)) (λ h. h.name))) scene.within)
      ∙ scene.hosts ∙ ap (active_in s.hosts) e;
  play_batch = scene.names;
}
