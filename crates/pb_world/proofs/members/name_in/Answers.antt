use Rattle.std.proofs.Common.{◌≡◌, ◌∙◌, ◌<◌, ◌≤◌, [], get_or, length, Some, option_map, sym, ap, subst, arith}
use Rattle.std.specs.Prelude.{slice_get}
use Rattle.std.proofs.lemmas.List.{length-map}
use Rattle.std.proofs.lemmas.Option.{get_or_from_slice_get, slice_get-map, slice_get-get_or, slice_get_past}
use Rattle.pb_inventory.specs.Inventory.{inventory_view}
use Rattle.pb_inventory.specs.Numbered.{name_of, named}
use Rattle.pb_world.specs.Hosts.{names_of_hosts}
use Rattle.pb_world.proofs.HostNames.{name-at}
use Rattle.pb_world.proofs.members.name_in.Goals as goal

pub returns-then-place-members : goal.returns-then-place-members
returns-then-place-members c =
    let ns = names_of_hosts (inventory_view c.args.inventory.now).hosts in
    let ms = c.args.members.now in
    let past : length (named ns ms) ≤ c.args.place = subst (λ n. n ≤ c.args.place) (sym (length-map ms (name_of ns))) c.if-place-members.true in
    sym (name-at c.args.place (named ns ms) ∙ slice_get_past (named ns ms) c.args.place past)

pub returns : goal.returns
returns c =
    let hs = (inventory_view c.args.inventory.now).hosts in
    let ns = names_of_hosts hs in
    let ms = c.args.members.now in
    let m = get_or ms c.args.place 0 in
    let within : c.args.place < length ms = omega (arith, c.if-place-members.false) in
    let name : name_of ns m ≡ c.host_name.result.now = get_or_from_slice_get ns m c.host_name.result.now [] (slice_get-map (λ h. h.name) hs m ∙ c.host_name.ensures) in
    let there : slice_get ms c.args.place ≡ Some m = slice_get-get_or ms c.args.place 0 within in
    ap Some (sym name) ∙ sym (name-at c.args.place (named ns ms) ∙ slice_get-map (name_of ns) ms c.args.place ∙ ap (option_map (name_of ns)) there)
