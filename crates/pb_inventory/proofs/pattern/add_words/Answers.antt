use Rattle.std.proofs.Common.{◌∙◌, ◌+◌, ◌<◌, ℕ, [], ◌∷◌, List, ap, arith, get_or, length, map, refl, subst, sym}
use Rattle.std.proofs.lemmas.Str.{IsCharBoundary-after_ascii, IsCharBoundary-start}
use Rattle.pb_language.specs.World.{HostVariables}
use Rattle.pb_inventory.specs.Inventory.{inventory_view}
use Rattle.pb_inventory.specs.Patterns.{hosts_found, names_at, words_left}
use Rattle.pb_inventory.proofs.PatternHosts.{found-more, word-left}
use Rattle.pb_inventory.proofs.WordBytes.{words_left-none}
use Rattle.pb_inventory.proofs.pattern.add_words.Goals as goal

pub loop-from-init : goal.loop-from-init
loop-from-init c = record { begins = λ le. IsCharBoundary-start c.args.text.now c.utf8.text; left = refl; marks = c.requires.marks }

pub loop-from-preserved : goal.loop-from-preserved
loop-from-preserved c =
    let l = c.loop-from in
    let v = inventory_view c.args.inventory.now in
    let names = map (λ (h : HostVariables). h.name) v.hosts in
    let text = c.args.text.now in
    let to = c.divider_from-to.result in
    let same = c.as_bytes.ensures.value in
    let word = c.word_in.result.now in
    let rest = words_left (to + 1) text in
    let left = word-left v (names_at names l.places.items) _ text c.as_bytes.result.now c.range.result.now word l.from to same c.divider_from-to.ensures.words c.range.ensures.value c.word_in.ensures l.invariant.left in
    record {
      begins = λ le. IsCharBoundary-after_ascii text to c.utf8.text (omega (arith, le))
          (subst (λ (bs : List ℕ). to < length bs → get_or bs to 0 < 128) same c.divider_from-to.ensures.divides (omega (arith, le)));
      left = sym (found-more v (names_at names l.places.items) (names_at names c.add_word.new.places.items) (word ∷ []) rest c.in_ok-add_word.ensures.given) ∙ left;
      marks = c.in_ok-add_word.ensures.marks;
    }

pub returns-clause-given : goal.returns-clause-given
returns-clause-given c =
    let l = c.loop-from in
    let v = inventory_view c.args.inventory.now in
    let names = map (λ (h : HostVariables). h.name) v.hosts in
    sym l.invariant.left ∙ ap (hosts_found v (names_at names l.places.items)) (words_left-none c.args.text.now l.from (omega (arith, c.loop-from-test.false)))
