-- What Turns have changed, as it was before them.
use Rattle.std.proofs.Common.{◌≡◌, ◌≤◌, ℕ, zero, suc, List, [], ◌∷◌, ◌++◌, Vec, map, set, length, Option, Some, None, slice_get, unwrap_or, refl, sym, ap, ◌∙◌}
use Rattle.std.proofs.Math.Nat.{ℕ_set}
use Rattle.std.proofs.Math.Bridge.{le_prop}
use Rattle.std.specs.Vec.{with_item}
use Rattle.std.specs.declared.alloc.Global.{Global}
use mathlib.Core.HLevel.{is_prop→PathP}
use Rattle.pb_position.specs.Positions.{handlers_of}
use Rattle.pb_core.specs.declared.entry.Entry.{Entry}
use Rattle.pb_core.specs.declared.entry.Former.{Former}
use Rattle.pb_core.specs.declared.host.HostState.{HostState}
use Rattle.pb_core.specs.declared.index.ReadyIndex.{ReadyIndex}
use Rattle.pb_core.specs.declared.run.RunCore.{RunCore}
use Rattle.pb_core.specs.Entries.{entered, found_one}
use Rattle.pb_core.specs.Formers.{before, before_all, before_at, before_one, stands_as}
use Rattle.pb_core.specs.Hosts.{ticket_of}
use Rattle.pb_core.proofs.Beginnings.{enters_one}
use Rattle.pb_core.proofs.Hosts.{set_here}

-- another element and then the one that was there
set_back : {A : Type 0} → (xs : List A) (k : ℕ) (x y : A) → slice_get xs k ≡ Some x → set (set xs k y) k x ≡ xs
set_back [] k x y e = refl
set_back (z ∷ xs) zero x y e = ap (λ o. unwrap_or o x ∷ xs) (sym e)
set_back (z ∷ xs) (suc k) x y e = ap (λ ys. z ∷ ys) (set_back xs k x y e)

set_same : {A B : Type 0} → (f : A → B) (xs : List A) (k : ℕ) (x y : A) → slice_get xs k ≡ Some x → f y ≡ f x → map f (set xs k y) ≡ map f xs
set_same f [] k x y e g = refl
set_same f (z ∷ xs) zero x y e g = ap (λ t. t ∷ map f xs) (g ∙ ap (λ o. f (unwrap_or o x)) (sym e))
set_same f (z ∷ xs) (suc k) x y e g = ap (λ ts. f z ∷ ts) (set_same f xs k x y e g)

module _ {P : Type 0} where
  vec_back : (xs : Vec (HostState P) Global) (k : ℕ) (x y : HostState P) → slice_get xs.items k ≡ Some x → with_item (with_item xs k y) k x ≡ xs
  vec_back xs k x y e = λ i. record {
    ptr = xs.ptr;
    len = xs.len;
    cap = xs.cap;
    alloc = xs.alloc;
    items = set_back xs.items k x y e i;
    ok = is_prop→PathP (λ j. (xs.len ≡ length (set_back xs.items k x y e j)) × (xs.len ≤ xs.cap)) (λ j p q l. (ℕ_set _ _ p.0 q.0 l, le_prop p.1 q.1 l)) (with_item (with_item xs k y) k x).ok xs.ok i;
    small = xs.small;
  }

  -- the host stands where it stood
  stands_back : (f : Former) (x y : HostState P) → f.position ≡ x.position → f.handlers ≡ x.handlers → y.stage ≡ x.stage → y.recap ≡ x.recap → stands_as f y ≡ x
  stands_back f x y p h s r = λ i. record {
    position = p i;
    handlers = h i;
    stage = s i;
    recap = r i;
    room = is_prop→PathP (λ j. handlers_of (p j) ≡ h j) (λ j. ℕ_set _ _) f.room x.room i;
  }

  -- a host begins, and stands in y
  pub enters_as : (xs : List (HostState P)) (x y : HostState P) (e : Entry) → slice_get xs e.host ≡ Some x → y.position ≡ e.position → y.handlers ≡ e.handlers → y.stage ≡ x.stage → y.recap ≡ x.recap
      → (k : ℕ) → slice_get (set xs e.host y) k ≡ entered (found_one k e) (slice_get xs k)
  enters_as xs x y e there p h s r k =
      let f : Former = record { host = e.host; position = e.position; handlers = e.handlers; room = e.room } in
      ap (λ z. slice_get (set xs e.host z) k) (sym (stands_back f y x (sym p) (sym h) (sym s) (sym r))) ∙ enters_one xs x e e.room there k

  before_last : (fs : List Former) (f : Former) (xs : Vec (HostState P) Global) → before_all (fs ++ f ∷ []) xs ≡ before_all fs (before_one f xs)
  before_last [] f xs = refl
  before_last (g ∷ fs) f xs = ap (before_one g) (before_last fs f xs)

  one_back : (xs : Vec (HostState P) Global) (f : Former) (x y : HostState P) → slice_get xs.items f.host ≡ Some x → f.position ≡ x.position → f.handlers ≡ x.handlers → y.stage ≡ x.stage → y.recap ≡ x.recap
      → before_one f (with_item xs f.host y) ≡ xs
  one_back xs f x y there p h s r =
      ap (before_at f (with_item xs f.host y)) (set_here xs.items f.host x y there)
      ∙ ap (with_item (with_item xs f.host y) f.host) (stands_back f x y p h s r) ∙ vec_back xs f.host x y there

  -- one more host has begun, and stands in y
  pub more_back : (xs : Vec (HostState P) Global) (fs gs : List Former) (f : Former) (x y : HostState P) → gs ≡ fs ++ f ∷ [] → slice_get xs.items f.host ≡ Some x → f.position ≡ x.position → f.handlers ≡ x.handlers → y.stage ≡ x.stage → y.recap ≡ x.recap
      → before_all gs (with_item xs f.host y) ≡ before_all fs xs
  more_back xs fs gs f x y more there p h s r =
      ap (λ hs. before_all hs (with_item xs f.host y)) more ∙ before_last fs f (with_item xs f.host y) ∙ ap (before_all fs) (one_back xs f x y there p h s r)

  -- a host stands where it stood, which is in y
  pub stands_one : (xs : Vec (HostState P) Global) (f : Former) (x y : HostState P) → slice_get xs.items f.host ≡ Some x → f.position ≡ y.position → f.handlers ≡ y.handlers → x.stage ≡ y.stage → x.recap ≡ y.recap
      → with_item xs f.host y ≡ before_one f xs
  stands_one xs f x y there p h s r = sym (ap (before_at f xs) there ∙ ap (with_item xs f.host) (stands_back f y x p h s r))

  -- the last that began stands where it stood
  pub last_back : (fs gs : List Former) (f : Former) (xs ys : Vec (HostState P) Global) → gs ≡ fs ++ f ∷ [] → ys ≡ before_one f xs → before_all fs ys ≡ before_all gs xs
  last_back fs gs f xs ys more one = ap (before_all fs) one ∙ sym (ap (λ hs. before_all hs xs) more ∙ before_last fs f xs)

  -- of the core
  pub core_back : (old : RunCore P) (now : ℕ) (index : ReadyIndex) (hosts : Vec (HostState P) Global) (fs gs : List Former) → before_all gs hosts ≡ before_all fs old.hosts
      → (n : ℕ) (x : ReadyIndex) → before n x gs (record old { current = now; index = index; hosts = hosts }) ≡ before n x fs old
  core_back old now index hosts fs gs e n x = ap (λ (hs : Vec (HostState P) Global). record old { current = n; index = x; hosts = hs }) e

  one_tickets : (f : Former) (xs : Vec (HostState P) Global) → map (λ x. ticket_of x.stage) (before_one f xs).items ≡ map (λ x. ticket_of x.stage) xs.items
  one_tickets f xs = by (slice_get xs.items f.host) refl where
    by : (o : Option (HostState P)) → slice_get xs.items f.host ≡ o → map (λ x. ticket_of x.stage) (before_at f xs o).items ≡ map (λ x. ticket_of x.stage) xs.items
    by None e = refl
    by (Some x) e = set_same (λ (z : HostState P). ticket_of z.stage) xs.items f.host x (stands_as f x) e refl

  pub back_tickets : (fs : List Former) (xs : Vec (HostState P) Global) → map (λ x. ticket_of x.stage) (before_all fs xs).items ≡ map (λ x. ticket_of x.stage) xs.items
  back_tickets [] xs = refl
  back_tickets (f ∷ fs) xs = one_tickets f (before_all fs xs) ∙ back_tickets fs xs
