use Rattle.std.proofs.Common.{◌∙◌, [], Some, ap, ap₂, sym}
use Rattle.pb_language.specs.Kinds.{known_slots}
use Rattle.pb_value.specs.View.{fields_view}
use Rattle.pb_kind.specs.KindView.{slots_view}
use Rattle.pb_inventory.specs.Inventory.{bases_view, inventory_view}
use Rattle.pb_inventory.specs.Views.{base_at, layered}
use Rattle.pb_hosts.specs.Given.{IsFirst, IsGiven, slots_given}
use Rattle.pb_hosts.specs.Tables.{with_slots}
use Rattle.pb_hosts.proofs.Sharing.{alike, base_read, first_itself, first_shared, held, own_known, shared_says}
use Rattle.pb_hosts.proofs.given.given_to.Goals as goal

pub returns-in-Some-clause-known : goal.returns-in-Some-clause-known
returns-in-Some-clause-known c =
    let i = c.args.inventory.now in
    let e = c.in-Some.earlier.now in
    let b = c.base_of-base.result.0 in
    let own = c.in_ok-own.own in
    let same = alike i e b (slots_view own.entries) (held (IsGiven i) c.args.before.now e c.requires.given c.in-Some.ensures.there) c.in-Some.ensures.base c.in-Some.ensures.own in
    let host = own_known (inventory_view i).hosts c.args.host (layered (base_at (bases_view i) b)) (fields_view c.base_of-base.result.1.now.entries) (slots_view own.entries) c.base_of-base.ensures.variables c.in_ok-own.ensures in
    shared_says c.shared.result e b own _ c.shared.ensures.base c.shared.ensures.own c.shared.ensures.known c.shared.ensures.first
    (λ g h j k m. host ∙ ap Some (sym (k ∙ same)))

pub returns-in-Some-clause-given : goal.returns-in-Some-clause-given
returns-in-Some-clause-given c =
    let i = c.args.inventory.now in
    let e = c.in-Some.earlier.now in
    let b = c.base_of-base.result.0 in
    let own = c.in_ok-own.own in
    let same = alike i e b (slots_view own.entries) (held (IsGiven i) c.args.before.now e c.requires.given c.in-Some.ensures.there) c.in-Some.ensures.base c.in-Some.ensures.own in
    shared_says c.shared.result e b own (IsGiven i) c.shared.ensures.base c.shared.ensures.own c.shared.ensures.known c.shared.ensures.first
    (λ g h j k m. k ∙ same ∙ sym (ap₂ (λ n o. with_slots (known_slots (layered (base_at (bases_view i) n))) (slots_view o.entries)) h j))

pub returns-in-Some-clause-first : goal.returns-in-Some-clause-first
returns-in-Some-clause-first c =
    let gs = c.args.before.now in
    let e = c.in-Some.earlier.now in
    let first = held (IsFirst (slots_given gs)) gs e c.requires.firsts c.in-Some.ensures.there in
    shared_says c.shared.result e c.base_of-base.result.0 c.in_ok-own.own _ c.shared.ensures.base c.shared.ensures.own c.shared.ensures.known c.shared.ensures.first
    (λ g h j k m. first_shared gs e g first m k)

pub returns-in-Some-with_known-clause-known : goal.returns-in-Some-with_known-clause-known
returns-in-Some-with_known-clause-known c =
    let i = c.args.inventory.now in
    let e = c.in-Some-with_known.earlier.now in
    let b = c.base_of-base.result.0 in
    let own = c.in_ok-own.own in
    let base = base_read (λ m. slots_view m.value.entries) (λ ls. known_slots (layered ls)) c.args.bases.now (bases_view i) b c.index-bases-base.result [] c.requires.bases c.base_of-base.ensures.base c.index-bases-base.is in
    let same = c.in-Some-with_known.ensures.known ∙ ap (λ m. slots_view m.entries) c.deref-2.ensures ∙ c.in_ok-known.ensures ∙ ap (λ ss. with_slots ss (slots_view own.entries)) base in
    let host = own_known (inventory_view i).hosts c.args.host (layered (base_at (bases_view i) b)) (fields_view c.base_of-base.result.1.now.entries) (slots_view own.entries) c.base_of-base.ensures.variables c.in_ok-own.ensures in
    let s = c.shared-in-Some-with_known in
    shared_says s.result e b own _ s.ensures.base s.ensures.own s.ensures.known s.ensures.first (λ g h j k m. host ∙ ap Some (sym (k ∙ same)))

pub returns-in-Some-with_known-clause-given : goal.returns-in-Some-with_known-clause-given
returns-in-Some-with_known-clause-given c =
    let i = c.args.inventory.now in
    let e = c.in-Some-with_known.earlier.now in
    let b = c.base_of-base.result.0 in
    let own = c.in_ok-own.own in
    let base = base_read (λ m. slots_view m.value.entries) (λ ls. known_slots (layered ls)) c.args.bases.now (bases_view i) b c.index-bases-base.result [] c.requires.bases c.base_of-base.ensures.base c.index-bases-base.is in
    let same = c.in-Some-with_known.ensures.known ∙ ap (λ m. slots_view m.entries) c.deref-2.ensures ∙ c.in_ok-known.ensures ∙ ap (λ ss. with_slots ss (slots_view own.entries)) base in
    let s = c.shared-in-Some-with_known in
    shared_says s.result e b own (IsGiven i) s.ensures.base s.ensures.own s.ensures.known s.ensures.first
    (λ g h j k m. k ∙ same ∙ sym (ap₂ (λ n o. with_slots (known_slots (layered (base_at (bases_view i) n))) (slots_view o.entries)) h j))

pub returns-in-Some-with_known-clause-first : goal.returns-in-Some-with_known-clause-first
returns-in-Some-with_known-clause-first c =
    let gs = c.args.before.now in
    let e = c.in-Some-with_known.earlier.now in
    let s = c.shared-in-Some-with_known in
    let first = held (IsFirst (slots_given gs)) gs e c.requires.firsts c.in-Some-with_known.ensures.there in
    shared_says s.result e c.base_of-base.result.0 c.in_ok-own.own _ s.ensures.base s.ensures.own s.ensures.known s.ensures.first (λ g h j k m. first_shared gs e g first m k)

pub returns-clause-known : goal.returns-clause-known
returns-clause-known c =
    let i = c.args.inventory.now in
    let b = c.base_of-base.result.0 in
    let own = slots_view c.in_ok-own.own.entries in
    let base = base_read (λ m. slots_view m.value.entries) (λ ls. known_slots (layered ls)) c.args.bases.now (bases_view i) b c.index-bases-base.result [] c.requires.bases c.base_of-base.ensures.base c.index-bases-base.is in
    let same = c.in_ok-known.ensures ∙ ap (λ ss. with_slots ss own) base in
    own_known (inventory_view i).hosts c.args.host (layered (base_at (bases_view i) b)) (fields_view c.base_of-base.result.1.now.entries) own c.base_of-base.ensures.variables c.in_ok-own.ensures ∙ ap Some (sym same)

pub returns-clause-given : goal.returns-clause-given
returns-clause-given c =
    let i = c.args.inventory.now in
    let own = slots_view c.in_ok-own.own.entries in
    let base = base_read (λ m. slots_view m.value.entries) (λ ls. known_slots (layered ls)) c.args.bases.now (bases_view i) c.base_of-base.result.0 c.index-bases-base.result [] c.requires.bases c.base_of-base.ensures.base c.index-bases-base.is in
    c.in_ok-known.ensures ∙ ap (λ ss. with_slots ss own) base

pub returns-clause-first : goal.returns-clause-first
returns-clause-first c = first_itself c.args.before.now _ c.requires.before
