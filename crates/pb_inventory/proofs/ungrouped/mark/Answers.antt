use Rattle.std.proofs.Common.{◌≡◌, ◌∙◌, ◌<◌, length, take, sym, ap, subst, set, string_bytes, true, arith, String, Global}
use Rattle.std.specs.declared.sync.Arc.{Arc}
use Rattle.std.proofs.lemmas.List.{length-map}
use Rattle.pb_semantics.specs.Keeps.{is_among}
use Rattle.pb_inventory.specs.Documents.{key_names, names_view}
use Rattle.pb_inventory.specs.Numbered.{name_of}
use Rattle.pb_inventory.proofs.Groups.{taken-more}
use Rattle.pb_inventory.proofs.Marked.{AreMarked, all-left, marked-more}
use Rattle.pb_inventory.proofs.ungrouped.mark.Goals as goal

pub loop-name-preserved : goal.loop-name-preserved
loop-name-preserved c =
    let l = c.loop-name in
    let ns = c.args.names.now in
    let name = c.name-item.result in
    let hs = key_names c.args.hosts.now.keys in
    let size : length hs ≡ length c.args.hosts.now.keys = length-map c.args.hosts.now.keys (λ k. string_bytes k) in
    let few : c.place_of.result < length hs = omega (arith, c.place_of.ensures.within, size) in
    let lt : c.place_of.result < length l.marks = omega (arith, c.place_of.ensures.within, l.auto.marks, c.requires.count) in
    let named : name_of hs c.place_of.result ≡ string_bytes name.value = c.place_of.ensures.named ∙ c.as_str.ensures.value ∙ ap (λ s. string_bytes s) c.deref.ensures in
    let has : AreMarked hs (names_view (take l.name-index ns)) c.args.marks.now l.marks = λ i lt. l.invariant.marked i (omega (arith, lt, size)) in
    let more = marked-more hs (names_view (take l.name-index ns)) c.args.marks.now l.marks c.place_of.result (string_bytes name.value) c.requires.apart few lt named has in
    let next = taken-more (λ (n : Arc (String Global) Global). string_bytes n.value) ns l.name-index name c.loop-name-test.true c.name-item.is in
    record {
      known = all-left (λ n. is_among n hs) ns l.name-index name c.loop-name-test.true c.name-item.is l.invariant.known;
      marked = λ i lt. subst (λ ms. AreMarked hs ms c.args.marks.now (set l.marks c.place_of.result true)) (sym next) more i (omega (arith, lt, size));
    }
