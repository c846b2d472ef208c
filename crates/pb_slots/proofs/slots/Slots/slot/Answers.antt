use Rattle.std.proofs.Common.{rules, nat_cmp, String, Global, string_bytes}
use Rattle.std.specs.Cmp.Lexicographic.{slice_cmp}
use Rattle.std.proofs.lemmas.Fn.{always_returns_same}
use Rattle.pb_slots.proofs.Found.{slot-found, slot-missing}
use Rattle.pb_slots.proofs.slots.Slots.slot.Goals as goal

pub returns-in-Ok : goal.returns-in-Ok
returns-in-Ok c =
    let searched = c.binary_search_by.ensures.position (λ (e : String Global). slice_cmp nat_cmp (string_bytes e) c.args.name.now) (always_returns_same _ _ _ (λ a r f called. (search rules, search rules))) in
    slot-found c.deref.result.now c.args.self.now.names.items c.args.name.now c.in-Ok.slot c.binary_search_by.result c.args.self.now.ascending c.deref.ensures.value c.in-Ok.is c.in-Ok.ensures.bound searched

pub returns-in-Err : goal.returns-in-Err
returns-in-Err c =
    let searched = c.binary_search_by.ensures.position (λ (e : String Global). slice_cmp nat_cmp (string_bytes e) c.args.name.now) (always_returns_same _ _ _ (λ a r f called. (search rules, search rules))) in
    slot-missing c.deref.result.now c.args.self.now.names.items c.args.name.now c.in-Err.field-0 c.binary_search_by.result c.args.self.now.ascending c.deref.ensures.value c.in-Err.is searched
