use Rattle.std.proofs.Common.{◌≡◌, List, ℕ, true, false, rules, arith, sym, subst}
use Rattle.pb_language.specs.Texts.{is_text_within}
use Rattle.pb_template.proofs.Braces.{Left, begins, ends, goes, other_mark, too_long, unclosed}
use Rattle.pb_template.proofs.limits.is_text_within.Goals as goal

pub expressions-init : goal.expressions-init
expressions-init c =
    let at = c.opening_of-opening.result in
    let same = c.as_bytes-bytes.ensures.value in
    record {
      ends = search rules;
      left = subst (λ (bs : List ℕ). Left bs at) same (begins c.as_bytes-bytes.result.now _ at c.opening_of-opening.ensures.found);
    }

pub returns-in_default : goal.returns-in_default
returns-in_default c =
    let bytes = c.as_bytes-bytes.result.now in
    let at = c.expressions.opening in
    let same = c.as_bytes-bytes.ensures.value in
    let left = subst (λ (bs : List ℕ). Left bs at) (sym same) c.expressions.invariant.left in
    sym (subst (λ (bs : List ℕ). is_text_within bs ≡ true) same (unclosed bytes at left c.expressions-test.true (search rules) (search rules)))

pub returns-then-end-opening-gt-MOST_EXPRESSION_BYTES : goal.returns-then-end-opening-gt-MOST_EXPRESSION_BYTES
returns-then-end-opening-gt-MOST_EXPRESSION_BYTES c =
    let bytes = c.as_bytes-bytes.result.now in
    let at = c.expressions.opening in
    let same = c.as_bytes-bytes.ensures.value in
    let left = subst (λ (bs : List ℕ). Left bs at) (sym same) c.expressions.invariant.left in
    sym (subst (λ (bs : List ℕ). is_text_within bs ≡ false) same
    (too_long bytes at c.in-Some.end left c.expressions-test.true (search rules) c.in-Some.ensures.begins c.in-Some.ensures.ends c.in-Some.ensures.found c.if-end-opening-gt-MOST_EXPRESSION_BYTES.true))

pub expressions-preserved : goal.expressions-preserved
expressions-preserved c =
    let bytes = c.as_bytes-bytes.result.now in
    let at = c.expressions.opening in
    let next = c.opening_of-opening-in-expressions.result in
    let same = c.as_bytes-bytes.ensures.value in
    let left = subst (λ (bs : List ℕ). Left bs at) (sym same) c.expressions.invariant.left in
    record {
      ends = search rules;
      left =
          subst (λ (bs : List ℕ). Left bs next) same
          (goes bytes _ at c.in-Some.end next left c.expressions-test.true (search rules) c.in-Some.ensures.begins c.in-Some.ensures.ends c.in-Some.ensures.found
          (let over = c.if-end-opening-gt-MOST_EXPRESSION_BYTES.false in omega (arith, over)) c.opening_of-opening-in-expressions.ensures.found c.opening_of-opening-in-expressions.ensures.begins);
    }

pub returns-then-bytes-opening-ne123 : goal.returns-then-bytes-opening-ne123
returns-then-bytes-opening-ne123 c =
    let bytes = c.as_bytes-bytes.result.now in
    let at = c.expressions.opening in
    let same = c.as_bytes-bytes.ensures.value in
    let left = subst (λ (bs : List ℕ). Left bs at) (sym same) c.expressions.invariant.left in
    sym (subst (λ (bs : List ℕ). is_text_within bs ≡ true) same (other_mark bytes at left c.expressions-test.true (search rules)))

pub returns : goal.returns
returns c =
    let bytes = c.as_bytes-bytes.result.now in
    let at = c.expressions.opening in
    let same = c.as_bytes-bytes.ensures.value in
    let left = subst (λ (bs : List ℕ). Left bs at) (sym same) c.expressions.invariant.left in
    sym (subst (λ (bs : List ℕ). is_text_within bs ≡ true) same (ends bytes at left (search rules)))
