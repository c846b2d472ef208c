use Rattle.std.proofs.Common.{rules, ◌∙◌, ap, nat_cmp, nat_le, String, Global, string_bytes}
use Rattle.std.specs.Cmp.Lexicographic.{slice_cmp}
use Rattle.std.proofs.lemmas.Fn.{always_returns_same}
use Rattle.pb_hosts.proofs.Searches.{found_lasts, kept_lasts, missing_lasts, never_here, same_read}
use Rattle.pb_hosts.proofs.lasting.Lasting.lists.Goals as goal

pub returns-then-index : goal.returns-then-index
returns-then-index c =
    let searched = c.binary_search_by.ensures.position (λ (e : String Global). slice_cmp nat_cmp (string_bytes e) c.args.name.now) (always_returns_same _ _ _ (λ a r f called. (search rules, search rules))) in
    let found = found_lasts c.args.names.now c.args.self.now.from.items c.args.name.now c.args.place c.in-Ok.index c.index.result.now c.binary_search_by.result c.requires.ascending c.requires.named c.in-Ok.is c.in-Ok.ensures.bound searched c.index.ensures in
    let same = same_read c.args.self.now.from.items _ c.in-Ok.index c.index-then-index.result.now c.index.result.now c.requires.named c.in-Ok.ensures.bound c.index-then-index.ensures c.index.ensures in
    ap (λ i. nat_le i c.args.place) same ∙ kept_lasts c.index.result.now c.args.place _ c.if-index.true found

pub returns-else-index : goal.returns-else-index
returns-else-index c =
    let searched = c.binary_search_by.ensures.position (λ (e : String Global). slice_cmp nat_cmp (string_bytes e) c.args.name.now) (always_returns_same _ _ _ (λ a r f called. (search rules, search rules))) in
    let found = found_lasts c.args.names.now c.args.self.now.from.items c.args.name.now c.args.place c.in-Ok.index c.index.result.now c.binary_search_by.result c.requires.ascending c.requires.named c.in-Ok.is c.in-Ok.ensures.bound searched c.index.ensures in
    never_here c.index.result.now c.args.place _ c.if-index.false found

pub returns-in-Err : goal.returns-in-Err
returns-in-Err c =
    let searched = c.binary_search_by.ensures.position (λ (e : String Global). slice_cmp nat_cmp (string_bytes e) c.args.name.now) (always_returns_same _ _ _ (λ a r f called. (search rules, search rules))) in
    missing_lasts c.args.names.now c.args.self.now.from.items c.args.name.now c.args.place c.in-Err.field-0 c.binary_search_by.result c.requires.ascending c.in-Err.is searched
