use Rattle.std.proofs.Common.{◌∙◌, ◌+◌, ◌<◌, ◌≤◌, List, length, get_or, take, sym, subst, arith, Option}
use Rattle.std.proofs.lemmas.List.{take_all, take_more}
use Rattle.std.proofs.lemmas.Option.{slice_get-get_or}
use Rattle.pb_language.specs.World.{HostVariables}
use Rattle.pb_lattice.specs.Arena.{names_of}
use Rattle.pb_inventory.specs.Inventory.{inventory_view}
use Rattle.pb_hosts.specs.declared.lasting.Lasting.{Lasting}
use Rattle.pb_tables.specs.Listed.{lasting_lists, put_each}
use Rattle.pb_tables.proofs.Lasted.{AreLasting, all_lasting, beside_more, beside_nobody, lasting_more, none_lasting}
use Rattle.pb_tables.proofs.Rounded.{nobody}
use Rattle.pb_tables.proofs.laters.laters_of.Goals as goal

pub loop-host-init : goal.loop-host-init
loop-host-init c =
    let stage = c.args.stage.now in
    let ns = names_of stage.names.now in
    let i = inventory_view stage.inventory.now in
    record {
      names = c.requires.names;
      beside = beside_nobody (length stage.names.now) c.in_ok-laters.laters.items stage.scenes.now c.in_ok-laters.ensures;
      all = λ ps scenes. subst (λ (os : List (Option (List Lasting))). AreLasting ns i ps (take 0 i.hosts) os) (sym c.in_ok-laters.ensures) (none_lasting ns i stage.inventory.now ps stage.scenes.now scenes);
    }

pub loop-host-preserved : goal.loop-host-preserved
loop-host-preserved c =
    let l = c.loop-host in
    let stage = c.args.stage.now in
    let ns = names_of stage.names.now in
    let i = inventory_view stage.inventory.now in
    let within : l.host < length i.hosts = omega (arith, c.hosts-host-end.ensures, c.loop-host-test.true) in
    let x = get_or i.hosts l.host nobody in
    let there = slice_get-get_or i.hosts l.host nobody within in
    let put = c.in_ok-laters-2.ensures in
    record {
      names = c.in_ok-space.ensures.over ∙ c.in_ok-lasting.ensures.names ∙ l.invariant.names;
      beside = beside_more (length stage.names.now) l.laters.items c.in_ok-laters-2.laters.items c.in_ok-lasting.lasting.items l.invariant.beside c.in_ok-lasting.ensures.beside put;
      all = λ ps scenes.
          subst (λ (os : List (Option (List Lasting))). AreLasting ns i ps (take (l.host + 1) i.hosts) os) (sym put)
          (subst (λ (xs : List HostVariables). AreLasting ns i ps xs (put_each (lasting_lists l.laters.items) c.in_ok-lasting.lasting.items)) (sym (take_more i.hosts l.host nobody within))
          (lasting_more ns i ps (take l.host i.hosts) x (lasting_lists l.laters.items) c.in_ok-lasting.lasting.items (l.invariant.all ps scenes) (c.in_ok-lasting.ensures.lasts ps x scenes there)));
    }

pub returns-clause-laters : goal.returns-clause-laters
returns-clause-laters c =
    let l = c.loop-host in
    let stage = c.args.stage.now in
    let ns = names_of stage.names.now in
    let i = inventory_view stage.inventory.now in
    let past : length i.hosts ≤ l.host = omega (arith, c.hosts-host-end.ensures, c.loop-host-test.false) in
    λ ps scenes. all_lasting ns i ps l.laters.items (subst (λ (xs : List HostVariables). AreLasting ns i ps xs (lasting_lists l.laters.items)) (take_all l.host i.hosts past) (l.invariant.all ps scenes))
