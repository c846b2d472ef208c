use Rattle.std.proofs.Common.{◌≡◌, ◌∙◌, ◌<◌, ◌++◌, ◌∷◌, [], ℕ, Global, List, String, Vec, length, sym, ap, subst, string_bytes, get_or, suc, take, arith}
use Rattle.std.specs.Vec.Iter.{into_iter_items}
use Rattle.std.proofs.lemmas.List.{get_or-map, length-map}
use Rattle.pb_inventory.specs.Documents.{key_names}
use Rattle.pb_inventory.specs.Families.{AreBelow, lists_of}
use Rattle.pb_inventory.specs.Numbered.{name_of}
use Rattle.pb_inventory.specs.Views.{are_placed}
use Rattle.pb_inventory.proofs.Built.{entry_lists, entry_names, entries-few, next-entry, next-named, next-listed, next-placed}
use Rattle.pb_inventory.proofs.build.placed_groups.Goals as goal

pub bounds-names-len : goal.bounds-names-len
bounds-names-len c =
    let l = c.loop-list in
    let few = entries-few l.groups.entries (into_iter_items l.list-iterator) c.args.members.items l.invariant.members in
    omega (arith, few, ap (λ (xs : List (Vec ℕ Global)). length xs) c.in-Some.ensures.steps.0, c.requires.count, c.len-in-loop-list.ensures.len, ap length c.as_slice-names.ensures.keys)

pub loop-list-preserved : goal.loop-list-preserved
loop-list-preserved c =
    let l = c.loop-list in
    let es = l.groups.entries in
    let ks = c.args.names.now.keys in
    let ns = key_names ks in
    let rest = into_iter_items c.next.new.self in
    let v = c.in-Some.list in
    let k = c.in_ok-name.name in
    let entry : String Global × Vec ℕ Global = (k, v) in
    let limit = length c.args.hosts.now.keys in
    let steps = c.in-Some.ensures.steps.0 in
    let few = entries-few es (into_iter_items l.list-iterator) c.args.members.items l.invariant.members in
    let place : c.len-in-loop-list.result ≡ length es = c.len-in-loop-list.ensures.len in
    let there : length es < length ks = omega (arith, few, ap (λ (xs : List (Vec ℕ Global)). length xs) steps, c.requires.count) in
    let lt : length es < length ns = omega (arith, there, length-map ks (λ k. string_bytes k)) in
    let key : c.index-names-len.result ≡ get_or ks (length es) c.index-names-len.result =
    c.index-names-len.is ∙ ap (λ i. get_or c.as_slice-names.result.now i c.index-names-len.result) place ∙ ap (λ xs. get_or xs (length es) c.index-names-len.result) c.as_slice-names.ensures.keys in
    let name : string_bytes k ≡ name_of ns (length es) =
    c.in_ok-name.ensures.cases ∙ ap (λ s. string_bytes s) key ∙ sym (get_or-map (λ (s : String Global). string_bytes s) ks (length es) c.index-names-len.result [] there) in
    let all : c.insert.new.self.entries ≡ es ++ entry ∷ [] = c.in_ok-insert.ensures.entries ∙ next-entry ns es k v c.requires.apart lt name l.invariant.named in
    let below : AreBelow limit (v ∷ rest) = subst (AreBelow limit) steps l.invariant.below in
    record {
      counted = omega (arith, l.invariant.counted, ap (λ (xs : List (Vec ℕ Global)). length xs) steps, c.in-Some.ensures.steps.1);
      named = ap entry_names all ∙ next-named ns es k v lt name l.invariant.named ∙ ap (λ (xs : List (String Global × Vec ℕ Global)). take (length xs) ns) (sym all);
      members = ap (λ xs. entry_lists xs ++ lists_of rest) all ∙ next-listed es k v rest ∙ ap (λ xs. entry_lists es ++ lists_of xs) (sym steps) ∙ l.invariant.members;
      below = λ i d lt. below (suc i) d (omega (arith, lt));
      placed = ap (are_placed limit) all ∙ next-placed limit es k v l.invariant.placed (below 0 v (omega arith));
    }
