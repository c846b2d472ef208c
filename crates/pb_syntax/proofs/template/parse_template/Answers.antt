use Rattle.std.proofs.Common.{◌≡◌, ℕ, List, Some, drop, slice_range, ap, subst, sym, arith, rules, ◌∙◌}
use Rattle.std.proofs.lemmas.Str.{IsCharBoundary-start}
use Rattle.std.specs.Str.{IsCharBoundary, IsUtf8}
use Rattle.pb_semantics.specs.Gives.{FaultGives}
use Rattle.pb_language.specs.Grammar.{cut, marked_parts, opening_in, with_part}
use Rattle.pb_syntax.specs.ExprView.{expr_view, exprs_view}
use Rattle.pb_syntax.specs.Trees.{no_tree}
use Rattle.pb_syntax.proofs.Parts.{behind-braces, parted-begins, parted-ends, parted-goes, parted-stuck}
use Rattle.pb_syntax.proofs.Refusals.{passed-tree}
use Rattle.pb_syntax.proofs.template.parse_template.Goals as goal

pub with_text-requires-clause-begins : goal.with_text-requires-clause-begins
with_text-requires-clause-begins c = IsCharBoundary-start c.args.text.now c.utf8.text

pub parts-init : goal.parts-init
parts-init c =
    let at = c.opening_of-opening.result in
    record {
      ends = search rules;
      parted =
          parted-begins c.args.text.now at c.new.result.items c.in_ok-parts.parts.items c.new.ensures.items
          (subst (λ (bs : List ℕ). opening_in (drop 0 bs) ≡ cut (slice_range bs 0 at) (drop at bs)) c.as_bytes-bytes.ensures.value c.opening_of-opening.ensures.found) c.in_ok-parts.ensures;
    }

pub returns-in_err-part-clause-tree : goal.returns-in_err-part-clause-tree
returns-in_err-part-clause-tree c =
    let f = c.in_err-part.field-0.0 in
    passed-tree _ f _ c.from_residual-in_err-part.ensures.1
    (parted-stuck f c.args.text.now (exprs_view c.parts.parts.items) c.parts.opening c.parts.invariant.parted
    (λ parts. subst (λ (bs : List ℕ). FaultGives (no_tree f) (marked_parts parts (drop c.parts.opening bs))) c.as_bytes-bytes.ensures.value (c.in_err-part.ensures.refused parts)))

pub with_text-requires-in-parts-clause-begins : goal.with_text-requires-in-parts-clause-begins
with_text-requires-in-parts-clause-begins c =
    subst (λ (bs : List ℕ). IsCharBoundary bs c.in_ok-part.after) c.as_bytes-bytes.ensures.value
    (behind-braces c.as_bytes-bytes.result.now c.in_ok-part.after (subst IsUtf8 (sym c.as_bytes-bytes.ensures.value) c.utf8.text) (omega (arith, c.in_ok-part.ensures.past)) c.in_ok-part.ensures.ends c.in_ok-part.ensures.closes)

pub parts-preserved : goal.parts-preserved
parts-preserved c =
    let e = c.in_ok-part.part in
    let after = c.in_ok-part.after in
    let to = c.opening_of-opening-in-parts.result in
    let same = c.as_bytes-bytes.ensures.value in
    record {
      ends = search rules;
      parted =
          parted-goes c.args.text.now c.parts.opening after to c.parts.parts.items c.push.new.self.items c.in_ok-parts-2.parts.items e c.parts.invariant.parted (search rules)
          (omega (arith, c.in_ok-part.ensures.past)) c.opening_of-opening-in-parts.ensures.begins
          (λ parts. subst (λ (bs : List ℕ). marked_parts parts (drop c.parts.opening bs) ≡ with_part (Some (expr_view e)) (parts (drop after bs))) same (c.in_ok-part.ensures.read parts)) c.in_ok-push.ensures.items
          (subst (λ (bs : List ℕ). opening_in (drop after bs) ≡ cut (slice_range bs after to) (drop to bs)) same c.opening_of-opening-in-parts.ensures.found) c.in_ok-parts-2.ensures;
    }

pub returns-clause-tree : goal.returns-clause-tree
returns-clause-tree c =
    parted-ends c.args.text.now (exprs_view c.parts.parts.items) c.parts.opening c.parts.invariant.parted (search rules) ∙ ap Some (sym c.in_ok-template_tree.ensures)
