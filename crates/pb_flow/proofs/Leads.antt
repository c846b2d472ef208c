-- The nodes of a play lead to higher ones.
use Rattle.std.proofs.Common.{◌≡◌, ◌≤◌, ◌<◌, ℕ, suc, List, [], ◌∷◌, ◌++◌, Bool, true, ◌&&◌, cond, nat_lt, nat_le, length, Option, Some, None, refl, sym, ap, subst, arith, is_some}
use Rattle.std.proofs.lemmas.Bool.Decides.{nat_tests}
use Rattle.pb_language.specs.Book.{Registry}
use Rattle.pb_language.specs.Expression.{Parts}
use Rattle.pb_language.specs.Links.{Link, Way, goes, fails, passes, link_to, size}
use Rattle.pb_language.specs.Task.{Task, Row}
use Rattle.pb_flow.specs.Ahead.{all_lead_on, is_ahead, lead_on}
use Rattle.pb_flow.specs.Flow.{AreRising, begins_at, end_node, row_links}
use Rattle.pb_flow.specs.Nodes.{node_links, node_task, nodes_links}
use Rattle.pb_flow.specs.declared.graph.Node.{Node}
use Rattle.pb_flow.proofs.Rises.{Within, links-rise}
use Rattle.pb_flow.proofs.Solved.{begin_within}

from-any : (lo last : ℕ) (ls : List Link) → AreRising lo last ls → AreRising 0 last ls
from-any lo last [] r = tt
from-any lo last (l ∷ ls) r = (grind arith, r.1, r.2, r.3)

first-rise : (lo last : ℕ) (xs ys : List Link) → AreRising lo last (xs ++ ys) → AreRising lo last xs
first-rise lo last [] ys r = tt
first-rise lo last (x ∷ xs) ys r = (r.0, r.1, r.2, first-rise x.source last xs ys r.3)

others-rise : (lo last : ℕ) (xs ys : List Link) → AreRising lo last (xs ++ ys) → AreRising 0 last ys
others-rise lo last [] ys r = from-any lo last ys r
others-rise lo last (x ∷ xs) ys r = others-rise x.source last xs ys r.3

both-tests : (a b c d : ℕ) → a < b → c ≤ d → (nat_lt a b && nat_le c d) ≡ true
both-tests a b c d h i = rw (less, most) refl where
  less : nat_lt a b ≡ true
  less = grind (arith, nat_tests)

  most : nat_le c d ≡ true
  most = grind (arith, nat_tests)

leads-ahead : (o lo last : ℕ) (t : Task) (w : Way) (n : Option ℕ) → AreRising lo last (link_to o t w n) → is_ahead o last n ≡ true
leads-ahead o lo last t w None r = refl
leads-ahead o lo last t w (Some n) r = both-tests o n n last r.1 r.2

all-three : (a b c : Bool) → a ≡ true → b ≡ true → c ≡ true → (a && (b && c)) ≡ true
all-three a b c h i j = rw (h, i, j) refl

nodes-lead : (ms : Registry) (vars : Parts) (last lo o : ℕ) (ns : List Node) → AreRising lo last (nodes_links ms vars o ns) → lead_on last o ns ≡ true
nodes-lead ms vars last lo o [] r = refl
nodes-lead ms vars last lo o (n ∷ ns) r =
    let t = node_task ms vars n in
    let rest = nodes_links ms vars (suc o) ns in
    let ends = link_to o t goes n.ok.to ++ link_to o t fails n.failed.to in
    let own = first-rise lo last (node_links ms vars o n) rest r in
    let e = others-rise lo last (cond (is_some n.handler) (link_to o t passes n.ok.to) []) ends own in
    all-three (is_ahead o last n.ok.to) (is_ahead o last n.failed.to) (lead_on last (suc o) ns)
    (leads-ahead o 0 last t goes n.ok.to (first-rise 0 last (link_to o t goes n.ok.to) (link_to o t fails n.failed.to) e))
    (leads-ahead o 0 last t fails n.failed.to (others-rise 0 last (link_to o t goes n.ok.to) (link_to o t fails n.failed.to) e))
    (nodes-lead ms vars last 0 (suc o) ns (others-rise lo last (node_links ms vars o n) rest r))

begin-leads : (last : ℕ) (o : Option ℕ) → Within 1 last o → is_ahead 0 last o ≡ true
begin-leads last None h = refl
begin-leads last (Some n) h = both-tests 0 n n last h.0 h.1

both : (a b : Bool) → a ≡ true → b ≡ true → (a && b) ≡ true
both a b h i = rw (h, i) refl

pub all-lead : (ms : Registry) (vars : Parts) (row : Row) (begin : Option ℕ) (ns : List Node) → begin ≡ begins_at row → nodes_links ms vars 1 ns ≡ row_links row → length ns ≡ size row → all_lead_on begin ns ≡ true
all-lead ms vars row begin ns b l s =
    let last : suc (length ns) ≡ end_node row = ap suc s in
    both (is_ahead 0 (suc (length ns)) begin) (lead_on (suc (length ns)) 1 ns)
    (rw (last, b) (begin-leads (end_node row) (begins_at row) (begin_within row)))
    (rw last (nodes-lead ms vars (end_node row) 1 1 ns (subst (AreRising 1 (end_node row)) (sym l) (links-rise row))))
