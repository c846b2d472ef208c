-- What tests leave as it is: what is known of hosts of which they taught nothing, which host a root
-- means, and which paths are there.
use Rattle.std.proofs.Common.{◌≡◌, List, [], ◌∷◌, Bool, true, false, cond, Option, Some, None, refl, ap, ◌∙◌}
use Rattle.pb_semantics.specs.Join.{join_spot}
use Rattle.pb_semantics.specs.Kind.{Spot}
use Rattle.pb_language.specs.Expression.{Name, Root, variable, alias, other, member, named_host, this_host, item_host, group_member}
use Rattle.pb_language.specs.World.{member_of}
use Rattle.pb_language.specs.Scope.{Scope, Present, each_spot, has_view, host_spot, put_view, resolved, unnamed, view_of, with_taught}
use Rattle.pb_language.specs.Narrow.{teach, teach_host, teach_member}
use Rattle.pb_taught.specs.Before.{Before}
use Rattle.pb_taught.specs.TaughtView.{scope_view, untaught}
use Rattle.pb_taught.specs.declared.scope.Taught.{Taught}

-- a path that is there, and where the paths that are there are those
abbrev pub shown_at : Root → List Name → Present
shown_at q ns = record { root = q; steps = ns }

abbrev pub with_present : List Present → Scope → Scope
with_present ps c = record c { present = ps }

pub shown-last : (new mid next : Scope) (p q : Present) (ps : List Present) → new ≡ with_present (p ∷ mid.present) mid → p ≡ q → mid ≡ next → next.present ≡ ps → new ≡ with_present (q ∷ ps) next
shown-last new mid next p q ps is same then kept =
    is ∙ ap (λ x. with_present (x ∷ mid.present) mid) same ∙ ap (λ m. with_present (q ∷ m.present) m) then ∙ ap (λ us. with_present (q ∷ us) next) kept

pub each-untold : (k : Before) (t : Taught) (on : Bool) (x : Name) (gs : List Name) → each_spot (untaught k.scope) on x gs ≡ each_spot (unnamed (scope_view k t)) on x gs
each-untold k t on x [] = refl
each-untold k t on x (g ∷ gs) = ap (join_spot (host_spot (untaught k.scope) on x g)) (each-untold k t on x gs)

pub resolved-taught : (k : Before) (t : Taught) (r : Root) → resolved (scope_view k t) r ≡ resolved k.scope r
resolved-taught k t (variable n) = refl
resolved-taught k t (alias n e) = refl
resolved-taught k t (other (named_host g) x) = refl
resolved-taught k t (other this_host x) = refl
resolved-taught k t (other item_host x) = refl
resolved-taught k t (other (group_member g n) x) = refl
resolved-taught k t (member g n) = refl

either-present : (q : Bool) (c d : Scope) (ps : List Present) → c.present ≡ ps → d.present ≡ ps → (cond q c d).present ≡ ps
either-present true c d ps h i = h
either-present false c d ps h i = i

host-present : (c : Scope) (f : Spot → Spot) (x g : Name) → (teach_host c f x g).present ≡ c.present
host-present c f x g =
    either-present (has_view g c.table) (record c { views = put_view g (with_taught x (f (host_spot c false x g)) (view_of g c.views)) c.views }) c c.present refl refl

member-present : (c : Scope) (f : Spot → Spot) (x : Name) (o : Option Name) → (teach_member c f x o).present ≡ c.present
member-present c f x None = refl
member-present c f x (Some g) = host-present c f x g

pub present-kept : (c : Scope) (f : Spot → Spot) (r : Root) → (teach c f r).present ≡ c.present
present-kept c f (variable n) = refl
present-kept c f (alias n e) = refl
present-kept c f (other (named_host g) x) = host-present c f x g
present-kept c f (other this_host x) = host-present c f x c.this
present-kept c f (other item_host x) = refl
present-kept c f (other (group_member g n) x) = member-present c f x (member_of g n c.groups)
present-kept c f (member g n) = refl
