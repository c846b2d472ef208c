use Rattle.std.proofs.Common.{◌≡◌, ◌∙◌, ◌<◌, ℕ, List, ap, get_or, length, refl, subst, sym, true}
use Rattle.std.proofs.lemmas.Str.{IsCharBoundary-after_ascii, IsCharBoundary-start}
use Rattle.pb_language.specs.BookForm.{is_blank}
use Rattle.pb_inventory.proofs.WordBytes.{blank_small, first-blank}
use Rattle.pb_inventory.proofs.pattern.without_first_blanks.Goals as goal

pub loop-place-init : goal.loop-place-init
loop-place-init c = record { begins = IsCharBoundary-start c.args.text.now c.utf8.text; left = refl }

pub loop-place-preserved : goal.loop-place-preserved
loop-place-preserved c =
    let p = c.loop-place.place in
    let same = c.as_bytes-bytes.ensures.value in
    let lt : p < length c.args.text.now = subst (λ (bs : List ℕ). p < length bs) same c.loop-place-test.true in
    let blank : is_blank (get_or c.args.text.now p 0) ≡ true = ap (λ (bs : List ℕ). is_blank (get_or bs p 0)) (sym same) ∙ sym c.is_blank.ensures ∙ c.if-not-is_blank.false in
    record {
      begins = IsCharBoundary-after_ascii c.args.text.now p c.utf8.text lt (blank_small (get_or c.args.text.now p 0) blank);
      left = first-blank c.args.text.now p lt blank c.loop-place.invariant.left;
    }
