use Rattle.std.proofs.Common.{◌≡◌, [], None, subst}
use Rattle.std.proofs.lemmas.Result.{err_from_is_err_and}
use Rattle.pb_semantics.specs.Gives.{FaultGives}
use Rattle.pb_inventory.specs.Documents as inventory
use Rattle.pb_inventory.specs.Inventory.{inventory_view}
use Rattle.pb_inventory.specs.Patterns.{hosts_found, no_hosts, patterns_words}
use Rattle.pb_batches.proofs.Patterns.{pattern-found, pattern-unknown}
use Rattle.pb_batches.proofs.batch.places_of.Goals as goal

pub returns-clause-hosts : goal.returns-clause-hosts
returns-clause-hosts c = pattern-found (inventory_view c.args.inventory.now) c.args.play.now.pattern.items c.deref.result.now _ c.deref.ensures.value c.in_ok-places.ensures.given

pub returns-in_err-places-clause-unknown : goal.returns-in_err-places-clause-unknown
returns-in_err-places-clause-unknown c =
    let p = err_from_is_err_and c.from_residual.result c.from_residual.ensures.1 in
    let v = inventory_view c.args.inventory.now in
    let found = hosts_found v [] (patterns_words (inventory.names_view c.deref.result.now)) in
    rw (p.1, p.2) (λ e. pattern-unknown v c.args.play.now.pattern.items c.deref.result.now c.deref.ensures.value (subst (λ f. FaultGives (no_hosts f) found) e c.in_err-places.ensures.given))
