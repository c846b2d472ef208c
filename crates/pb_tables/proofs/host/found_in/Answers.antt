use Rattle.std.proofs.Common.{◌≡◌, drop, get_or, refl, slice_get, subst, sym, ap, ◌∙◌}
use Rattle.std.proofs.lemmas.Result.{IfOk-weaker}
use Rattle.pb_semantics.specs.Keeps.{is_among}
use Rattle.pb_semantics.proofs.Bools.{untrue}
use Rattle.pb_language.specs.Program.{setting_of}
use Rattle.pb_language.specs.Scope.{view_of}
use Rattle.pb_language.specs.Tables.{first_laters}
use Rattle.pb_language.specs.Task.{Row}
use Rattle.pb_language.specs.World.{HostVariables}
use Rattle.pb_lattice.specs.Environments.{exit_of}
use Rattle.pb_inventory.specs.Inventory.{inventory_view}
use Rattle.pb_inventory.specs.declared.inventory.Inventory as read
use Rattle.pb_kind.specs.KindView.{slots_view}
use Rattle.pb_route.specs.Routes.{ArePathsOf}
use Rattle.pb_language.specs.Plays.{play_row}
use Rattle.pb_hosts.specs.Shown.{views_view}
use Rattle.pb_hosts.specs.Sights.{seen_setting}
use Rattle.pb_tables.specs.Played.{laters_here}
use Rattle.pb_tables.specs.Scenes.{IsScene}
use Rattle.pb_tables.specs.Tabled.{laters_in}
use Rattle.pb_tables.proofs.HostSeen.{finds_as, laters_lent, named_in, one_of, one_there, seen_there}
use Rattle.pb_tables.proofs.host.found_in.Goals as goal

pub returns-clause-named : goal.returns-clause-named
returns-clause-named c =
    let stage = c.args.stage.now in
    let inv = stage.inventory.now in
    let i = inventory_view inv in
    let views = c.args.tables.now.views in
    let scene = get_or stage.scenes.now c.args.play c.index-stage-play.result in
    let seen = c.of-seen.result in
    let ls = first_laters (drop c.args.play (laters_in stage c.args.tables.now.laters.items)) in
    IfOk-weaker c.play_found.result _ _
    (λ w f s p x is a hx named.
    let same : scene ≡ s = one_there stage.scenes.now c.args.play c.index-stage-play.result s c.requires.play is in
    let this : IsScene inv p scene = subst (IsScene inv p) (sym same) a in
    let row = this.row in
    let paths : ArePathsOf (play_row row.0 row.1) scene.route = subst (λ (r : Row). ArePathsOf r scene.route) row.2 this.paths in
    let name : x.name ≡ c.args.constants.now.name.now = one_of (λ (h : HostVariables). h.name) (slice_get i.hosts c.args.constants.now.host) x c.args.constants.now.name.now c.requires.constants.named hx in
    let view : view_of x.name (views_view views) ≡ slots_view c.slots.result.now.entries = one_of (λ (h : HostVariables). view_of h.name (views_view views)) (slice_get (inventory_view views.inventory.now).hosts c.args.constants.now.host) x (slots_view c.slots.result.now.entries) c.slots.ensures.named
    (ap (λ (j : read.Inventory). slice_get (inventory_view j).hosts c.args.constants.now.host) c.requires.tables.inventory ∙ hx) in
    let setting : seen_setting seen ≡ setting_of i p (views_view views) ls x.name = seen_there seen scene _ _ _ _ inv p x.name ls c.of-seen.ensures.cast c.of-seen.ensures.constants c.of-seen.ensures.views c.of-seen.ensures.laters (sym name) refl this (laters_lent i c.as_ref.result ∙ ap (λ o. laters_here i o) c.as_ref.ensures.value ∙ c.laters_at-laters.ensures) in
    finds_as x.name (seen_setting seen) (setting_of i p (views_view views) ls x.name) (play_row row.0 row.1) p.row (slots_view c.slots.result.now.entries) (view_of x.name (views_view views)) (exit_of c.args.space.now c.args.before.at) (exit_of c.play_found.new.space w.at) c.args.before.found w.found
    setting (sym row.2) (sym view) (f x.name row.0 row.1 paths)) c.play_found.ensures.found

pub returns-clause-others : goal.returns-clause-others
returns-clause-others c =
    let stage = c.args.stage.now in
    let inv = stage.inventory.now in
    let scene = get_or stage.scenes.now c.args.play c.index-stage-play.result in
    IfOk-weaker c.play_found.result _ _
    (λ w f s p x is a hx others.
    let same : scene ≡ s = one_there stage.scenes.now c.args.play c.index-stage-play.result s c.requires.play is in
    let this : IsScene inv p scene = subst (IsScene inv p) (sym same) a in
    let named : is_among x.name p.hosts ≡ c.has.result = named_in inv p scene c.args.constants.now.host x c.has.result this c.has.ensures hx in
    untrue (sym others ∙ named ∙ c.if-not-has.false)) c.play_found.ensures.found
