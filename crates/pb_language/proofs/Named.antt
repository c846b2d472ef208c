-- The names that are always there keep the kinds that they are given.
use Rattle.std.proofs.Common.{◌≡◌, ◌≤◌, ℕ, zero, suc, List, [], ◌∷◌, true, false, nat_le, length, refl, arith, codes, bytes_eq}
use Rattle.std.proofs.lemmas.Bool.Decides.{nat_tests}
use Rattle.pb_semantics.specs.Data.{Fields, text, list, rec, count_of}
use Rattle.pb_semantics.specs.Kind.{Slots, texts, hosts, lists, recs}
use Rattle.pb_semantics.specs.Keeps.{keeps, all_items, is_among, Models}
use Rattle.pb_semantics.specs.Below.{are_among}
use Rattle.pb_semantics.specs.Well.{are_once}
use Rattle.pb_semantics.proofs.Bools.{and-left, and-right, and-both, or-left}
use Rattle.pb_semantics.proofs.Names.{own_name}
use Rattle.pb_semantics.proofs.Hosts.{among_through, own_among}
use Rattle.pb_semantics.specs.Join.{add_names}
use Rattle.pb_semantics.proofs.PutSlots.{first_names}
use Rattle.pb_language.specs.Expression.{Name}
use Rattle.pb_language.specs.World.{Group}
use Rattle.pb_language.specs.Setting.{Setting, host_list, group_slots, with_failure_slot, named_slots, names_list, group_fields, with_failure, named_fields}
use Rattle.pb_language.proofs.WithSlot.{models_written, kept_written, once_with}

pub le_from : (n m : ℕ) → n ≤ m → nat_le n m ≡ true
le_from n m h = grind (arith, nat_tests)

count_names : (ns : List Name) → count_of (names_list ns) ≡ length ns
count_names [] = refl
count_names (n ∷ ns) = let y = count_names ns in omega (arith, y)

each_among : (ns ms : List Name) → are_among ns ms ≡ true → all_items (λ d. keeps d (hosts ms)) (names_list ns) ≡ true
each_among [] ms h = refl
each_among (n ∷ ns) ms h = and-both (is_among n ms) (all_items (λ d. keeps d (hosts ms)) (names_list ns)) (and-left (is_among n ms) (are_among ns ms) h) (each_among ns ms (and-right (is_among n ms) (are_among ns ms) h))

each_text : (ns : List Name) → all_items (λ d. keeps d texts) (names_list ns) ≡ true
each_text [] = refl
each_text (n ∷ ns) = each_text ns

-- names of hosts as a list
pub hosts_kept : (ns ms : List Name) (k : ℕ) → are_among ns ms ≡ true → length ns ≤ k → keeps (list (names_list ns)) (lists (hosts ms) k) ≡ true
hosts_kept ns ms k h l = and-both (nat_le (count_of (names_list ns)) k) (all_items (λ d. keeps d (hosts ms)) (names_list ns)) (rw (count_names ns) (le_from (length ns) k l)) (each_among ns ms h)

-- and as a list of some of these hosts
host_list_kept : (ns ms : List Name) → are_among ns ms ≡ true → length ns ≤ length ms → keeps (list (names_list ns)) (host_list ms) ≡ true
host_list_kept ns ms h l = hosts_kept ns (add_names ms []) (length ms) (among_through ns ms (add_names ms []) h (first_names ms [])) l

texts_kept : (ns : List Name) → keeps (list (names_list ns)) (lists texts (length ns)) ≡ true
texts_kept ns = and-both (nat_le (count_of (names_list ns)) (length ns)) (all_items (λ d. keeps d texts) (names_list ns)) (rw (count_names ns) (le_from (length ns) (length ns) (omega arith))) (each_text ns)

once_groups : (gs : List Group) → are_once (group_slots gs) ≡ true
once_groups [] = refl
once_groups (g ∷ gs) = once_with g.name true (host_list g.hosts) (group_slots gs) (once_groups gs)

groups_kept : (gs : List Group) → keeps (rec (group_fields gs)) (recs (group_slots gs)) ≡ true
groups_kept [] = refl
groups_kept (g ∷ gs) =
    kept_written g.name (list (names_list g.hosts)) (group_fields gs) true (host_list g.hosts) (group_slots gs) (once_groups gs) (groups_kept gs)
    (host_list_kept g.hosts g.hosts (own_among g.hosts) (omega arith))

failure_models : (d : ℕ) (s : List ℕ) (fs : Fields) (env : Slots) → Models fs env → Models (with_failure d s fs) (with_failure_slot d env)
failure_models zero s fs env m = m
failure_models (suc d) s fs env m = models_written (codes "ansible_failed_result") _ fs true _ env m refl

-- a host's own names keep what is known of them, where its variables do
pub named_models : (st : Setting) (d : ℕ) (s : List ℕ) (batch : List Name) (fs : Fields) (env : Slots) → Models fs env → are_among batch st.play_hosts ≡ true → length batch ≤ length st.play_hosts
    → Models (named_fields st d s batch fs) (named_slots st d env)
named_models st d s batch fs env m among few =
    models_written (codes "inventory_hostname") (text st.this) _ true (hosts (st.this ∷ [])) _
    (models_written (codes "groups") (rec (group_fields st.groups)) _ true (recs (group_slots st.groups)) _
    (models_written (codes "group_names") (list (names_list st.memberships)) _ true (lists texts (length st.memberships)) _
    (models_written (codes "ansible_play_batch") (list (names_list batch)) _ true (host_list st.play_hosts) _ (failure_models d s fs env m) (host_list_kept batch st.play_hosts among few))
    (texts_kept st.memberships)) (groups_kept st.groups)) (or-left (bytes_eq st.this st.this) false (own_name st.this))
