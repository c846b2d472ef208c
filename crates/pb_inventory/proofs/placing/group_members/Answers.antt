use Rattle.std.proofs.Common.{◌≡◌, ◌∙◌, ◌<◌, ℕ, Vec, Global, length, map, set, sym, ap, subst, string_bytes, arith, get_or, [], true}
use Rattle.std.specs.List.{All, range_with_len}
use Rattle.std.proofs.lemmas.List.{length-map}
use Rattle.std.proofs.lemmas.List.Elements.{All-set}
use Rattle.pb_semantics.specs.Keeps.{is_among}
use Rattle.pb_language.specs.Families.{host_order}
use Rattle.pb_language.specs.Written.{all_group, ungrouped_group}
use Rattle.pb_inventory.specs.Documents.{key_names, written_view}
use Rattle.pb_inventory.specs.Families.{AreBelow, lists_of}
use Rattle.pb_inventory.specs.Numbered.{are_apart, named}
use Rattle.pb_inventory.proofs.Apart.{group_names-all, group_names-apart, group_names-ungrouped}
use Rattle.pb_inventory.proofs.NamedMembers.{members-numbered}
use Rattle.pb_inventory.proofs.Placed.{members-placed, named-all, places-below}
use Rattle.pb_inventory.proofs.Rows.{below-rows, lists_of-set}
use Rattle.pb_inventory.proofs.placing.group_members.Goals as goal

pub members_of-requires-clause-known : goal.members_of-requires-clause-known
members_of-requires-clause-known c =
    let vs = c.args.families.now.own.items in
    subst (λ xs. AreBelow c.len.result xs) (sym c.as_slice-own.ensures.value)
    (below-rows vs c.len.result (λ i h there. omega (arith, c.requires.numbered.placed i h there, length-map c.args.hosts.now.keys (λ k. string_bytes k), c.len.ensures.len)))

pub place_of-everywhere-requires : goal.place_of-everywhere-requires
place_of-everywhere-requires c = record { known = ap (is_among all_group) c.requires.numbered.names ∙ group_names-all (map written_view c.args.groups.now) }

pub place_of-nowhere-requires : goal.place_of-nowhere-requires
place_of-nowhere-requires c = record { known = ap (is_among ungrouped_group) c.requires.numbered.names ∙ group_names-ungrouped (map written_view c.args.groups.now) }

pub returns-clause-placed : goal.returns-clause-placed
returns-clause-placed c =
    let limit = length c.args.hosts.now.keys in
    let P = λ (v : Vec ℕ Global). All (λ n. n < limit) v.items in
    let ms = c.in_ok-members.members.items in
    let all = c.in_ok-members-2.field-0 in
    let none = c.in_ok-members-3.field-0 in
    let known : AreBelow limit ms = subst (λ n. AreBelow n ms) c.len.ensures.len c.in_ok-members.ensures.known in
    let all_known : P all = places-below all.items c.len-2.result limit c.in_ok-members-2.ensures c.len-2.ensures.len in
    All-set P (set ms c.place_of-everywhere.result all) c.place_of-nowhere.result none c.in_ok-members-3.ensures.within (All-set P ms c.place_of-everywhere.result all all_known known)

pub returns-clause-members : goal.returns-clause-members
returns-clause-members c =
    let ws = map written_view c.args.groups.now in
    let hs = key_names c.args.hosts.now.keys in
    let ns = key_names c.args.names.now.keys in
    let ms = c.in_ok-members.members.items in
    let all = c.in_ok-members-2.field-0 in
    let none = c.in_ok-members-3.field-0 in
    let a = c.place_of-everywhere.result in
    let u = c.place_of-nowhere.result in
    let n = c.requires.numbered in
    let size : length ns ≡ length c.args.names.now.keys = length-map c.args.names.now.keys (λ k. string_bytes k) in
    let places : c.len-2.result ≡ length hs = c.len-2.ensures.len ∙ sym (length-map c.args.hosts.now.keys (λ k. string_bytes k)) in
    let count : length (lists_of ms) ≡ length ns = length-map ms (λ v. v.items) ∙ c.in_ok-members.ensures.count ∙ ap (λ vs. length (lists_of vs)) c.as_slice-children.ensures.value ∙ n.counted in
    let found = rw (c.as_slice-own.ensures.value, c.as_slice-children.ensures.value) at c.in_ok-members.ensures.members in
    let apart : are_apart ns ≡ true = ap are_apart n.names ∙ group_names-apart ws in
    let everywhere : named hs all.items ≡ host_order ws = ap (named hs) (c.in_ok-members-2.ensures ∙ ap (range_with_len 0) places) ∙ named-all hs ∙ n.hosts in
    let listed : lists_of (set (set ms a all) u none) ≡ set (set (lists_of ms) a all.items) u none.items = lists_of-set (set ms a all) u none ∙ ap (λ xs. set xs u none.items) (lists_of-set ms a all) in
    λ i lt. ap (λ xs. named hs (get_or xs i [])) listed
    ∙ members-placed ws hs ns (lists_of ms) a u all.items none.items apart count (omega (arith, c.place_of-everywhere.ensures.within, size)) c.place_of-everywhere.ensures.named everywhere (omega (arith, c.place_of-nowhere.ensures.within, size))
    c.place_of-nowhere.ensures.named c.in_ok-members-3.ensures.named (λ j few. ap (named hs) (found j (omega (arith, few, n.counted))) ∙ members-numbered n c.args.order.now c.requires.order j few) i (omega (arith, lt, size))
