use Rattle.std.proofs.Common.{[], ◌≡◌, ◌∙◌, ◌-◌, ℕ, List, ap, arith, false, get_or, sym, take, true}
use Rattle.std.proofs.lemmas.Str.{IsCharBoundary-before_ascii}
use Rattle.pb_language.specs.BookForm.{is_blank, turned}
use Rattle.pb_inventory.proofs.WordBytes.{blank_small, last-blank, last-letter}
use Rattle.pb_inventory.proofs.pattern.without_last_blanks.Goals as goal

pub returns-then-not-is_blank : goal.returns-then-not-is_blank
returns-then-not-is_blank c =
    let end = c.loop-end.end in
    let letter : is_blank (get_or c.args.text.now (end - 1) 0) ≡ false = ap (λ (bs : List ℕ). is_blank (get_or bs (end - 1) 0)) (sym c.as_bytes-bytes.ensures.value) ∙ sym c.is_blank.ensures ∙ c.if-not-is_blank.true in
    let whole : end - 0 ≡ end = omega arith in
    ap (turned []) c.range.ensures.value ∙ ap (λ n. turned [] (take n c.args.text.now)) whole ∙ last-letter c.args.text.now end c.loop-end-test.true c.loop-end.invariant.ends.0 letter c.loop-end.invariant.left

pub loop-end-preserved : goal.loop-end-preserved
loop-end-preserved c =
    let end = c.loop-end.end in
    let some = c.loop-end-test.true in
    let le = c.loop-end.invariant.ends.0 in
    let blank : is_blank (get_or c.args.text.now (end - 1) 0) ≡ true = ap (λ (bs : List ℕ). is_blank (get_or bs (end - 1) 0)) (sym c.as_bytes-bytes.ensures.value) ∙ sym c.is_blank.ensures ∙ c.if-not-is_blank.false in
    record {
      ends = IsCharBoundary-before_ascii c.args.text.now (end - 1) (omega (arith, some, le)) (blank_small (get_or c.args.text.now (end - 1) 0) blank);
      left = last-blank c.args.text.now end some le blank c.loop-end.invariant.left;
    }
