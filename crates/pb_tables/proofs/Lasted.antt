-- What each host has at its later places, host by host.
use Rattle.std.proofs.Common.{◌≡◌, ℕ, List, [], ◌∷◌, ◌++◌, length, map, Bool, true, false, cond, Option, Some, None, refl, sym, ap, subst, ◌∙◌, Vec, Global}
use Rattle.std.specs.List.{All}
use Rattle.std.specs.declared.sync.Arc.{Arc}
use Rattle.std.proofs.lemmas.List.Elements.{All-cons, All-head, All-nil, All-push, All-tail}
use Rattle.pb_semantics.specs.Keeps.{is_among}
use Rattle.pb_language.specs.Expression.{Name}
use Rattle.pb_language.specs.Program.{Inventory, Play, Program}
use Rattle.pb_language.specs.Scope.{Later}
use Rattle.pb_language.specs.Tables.{HostWalk, PlayWalk, after_first, all_walked, hosts_walked, known_views, laters_of}
use Rattle.pb_language.specs.Verdict.{found_laters}
use Rattle.pb_language.specs.World.{HostVariables}
use Rattle.pb_inventory.specs.declared.inventory.Inventory as inventory
use Rattle.pb_walks.specs.Agree.{AllHostsAgree, LatersAgree}
use Rattle.pb_walks.proofs.SameLaters.{laters_of_agree}
use Rattle.pb_hosts.specs.Tables.{host_names, laters_from, since_view}
use Rattle.pb_hosts.specs.declared.lasting.Lasting.{Lasting}
use Rattle.pb_tables.specs.Found.{AllLast, HostLasts, host_walk}
use Rattle.pb_tables.specs.Listed.{lasting_lists, lasting_there, nobody_yet, put_each, put_last}
use Rattle.pb_tables.specs.Scenes.{AreScenes}
use Rattle.pb_tables.specs.Tabled.{AreBeside, laters_there}
use Rattle.pb_tables.specs.declared.scene.Scene.{Scene}
use Rattle.pb_tables.proofs.Chained.{laters_through}
use Rattle.pb_tables.proofs.Joined.{agreeing_joined, walked_joined}
use Rattle.pb_tables.proofs.LaterTables.{RowLasts, TableLasts, WhereLinear, listed, row_more, table_listed}

abbrev Column : Type 0
Column = Option (Vec (Arc Lasting Global) Global)

-- what these hosts have in each play, by ways that agree with theirs
pub record AreLasting (ns : List Name) (i : Inventory) (ps : Program) (xs : List HostVariables) (os : List (Option (List Lasting))) : Type 0 where
  pub walks : List HostWalk
  pub agrees : AllHostsAgree walks (hosts_walked i (known_views i.hosts) ps [] xs)
  pub lasts : TableLasts (since_view ns) ps walks os

row_lasts : (ns : List Name) (ps : Program) (h : Name) (ws : List PlayWalk) (ls : List Lasting) → AllLast ns ps h ws ls → RowLasts (since_view ns) ps h ws ls
row_lasts ns [] h ws ls a = a
row_lasts ns (p ∷ ps) h ws [] a = absurd a
row_lasts ns (p ∷ ps) h ws (l ∷ ls) a = (a.0, row_lasts ns ps h (after_first (is_among h p.hosts) ws) ls a.1)

-- no host yet
nobody_there : (ns : List Name) (p : Play) (q : Bool) → WhereLinear (since_view ns) q p [] (cond q (Some []) None)
nobody_there ns p true = tt
nobody_there ns p false = tt

nobody_tables : (ns : List Name) (j : inventory.Inventory) (ps : Program) (ss : List Scene) → AreScenes j ps ss → TableLasts (since_view ns) ps [] (map nobody_yet ss)
nobody_tables ns j [] [] a = tt
nobody_tables ns j [] (s ∷ ss) a = absurd a
nobody_tables ns j (p ∷ ps) [] a = absurd a
nobody_tables ns j (p ∷ ps) (s ∷ ss) a =
    (subst (λ q. WhereLinear (since_view ns) p.is_linear p [] (cond q (Some []) None)) (sym a.0.linear) (nobody_there ns p p.is_linear), nobody_tables ns j ps ss a.1)

pub none_lasting : (ns : List Name) (i : Inventory) (j : inventory.Inventory) (ps : Program) (ss : List Scene) → AreScenes j ps ss → AreLasting ns i ps [] (map nobody_yet ss)
none_lasting ns i j ps ss a = record { walks = []; agrees = tt; lasts = nobody_tables ns j ps ss a }

-- one host more
pub lasting_more : (ns : List Name) (i : Inventory) (ps : Program) (xs : List HostVariables) (x : HostVariables) (os : List (Option (List Lasting))) (ls : List Lasting) → AreLasting ns i ps xs os → HostLasts ns i ps x ls → AreLasting ns i ps (xs ++ x ∷ []) (put_each os ls)
lasting_more ns i ps xs x os ls before here =
    let w = here.walk in
    record {
      walks = before.walks ++ w ∷ [];
      agrees = subst (λ (us : List HostWalk). AllHostsAgree (before.walks ++ w ∷ []) us) (sym (walked_joined i ps (known_views i.hosts) [] xs x))
          (agreeing_joined before.walks (hosts_walked i (known_views i.hosts) ps [] xs) w (host_walk i ps (known_views i.hosts) [] x) before.agrees here.agrees);
      lasts = row_more (since_view ns) ps before.walks os w ls before.lasts (row_lasts ns ps w.host w.plays ls (subst (λ h. AllLast ns ps h w.plays ls) (sym here.agrees.host) here.lasts));
    }

-- all of them
since_all : (ns : List Name) (ls : List (Arc Lasting Global)) → map (λ l. since_view ns l.value) ls ≡ map (since_view ns) (map (λ l. l.value) ls)
since_all ns [] = refl
since_all ns (l ∷ ls) = ap (λ ss. since_view ns l.value ∷ ss) (since_all ns ls)

there_listed : (i : Inventory) (ns : List Name) (o : Column) → laters_there i ns o ≡ listed (since_view ns) (host_names i) (lasting_there o)
there_listed i ns None = refl
there_listed i ns (Some v) = ap (laters_from (host_names i)) (since_all ns v.items)

all_listed : (i : Inventory) (ns : List Name) (os : List Column) → map (laters_there i ns) os ≡ map (listed (since_view ns) (host_names i)) (lasting_lists os)
all_listed i ns [] = refl
all_listed i ns (o ∷ os) = ap (λ l. l ∷ map (laters_there i ns) os) (there_listed i ns o) ∙ ap (λ ls. listed (since_view ns) (host_names i) (lasting_there o) ∷ ls) (all_listed i ns os)

hosts_named : (i : Inventory) (ps : Program) (xs : List HostVariables) (ws : List HostWalk) → AllHostsAgree ws (hosts_walked i (known_views i.hosts) ps [] xs) → map (λ x. x.name) xs ≡ map (λ w. w.host) ws
hosts_named i ps [] [] a = refl
hosts_named i ps [] (w ∷ ws) a = absurd a
hosts_named i ps (x ∷ xs) [] a = absurd a
hosts_named i ps (x ∷ xs) (w ∷ ws) a = ap (λ n. n ∷ map (λ y. y.name) xs) (sym a.0.host) ∙ ap (λ ns. w.host ∷ ns) (hosts_named i ps xs ws a.1)

pub all_lasting : (ns : List Name) (i : Inventory) (ps : Program) (os : List Column) → AreLasting ns i ps i.hosts (lasting_lists os) → LatersAgree (map (laters_there i ns) os) (found_laters ps i)
all_lasting ns i ps os a =
    subst (λ (ls : List (List Later)). LatersAgree ls (found_laters ps i)) (sym (all_listed i ns os))
    (laters_through (map (listed (since_view ns) (host_names i)) (lasting_lists os)) (laters_of ps a.walks) (found_laters ps i)
    (table_listed (since_view ns) ps a.walks (lasting_lists os) (host_names i) (hosts_named i ps i.hosts a.walks a.agrees) a.lasts)
    (laters_of_agree ps a.walks (all_walked i ps (known_views i.hosts) []) a.agrees))

-- ---- as many places as there are names

abbrev Sized : ℕ → Lasting → Type 0
Sized n l = length l.from.items ≡ n

abbrev pub Beside : ℕ → Option (List Lasting) → Type 0
Beside n None = Unit {0}
Beside n (Some ls) = All (λ l. length l.from.items ≡ n) ls

values_sized : (n : ℕ) (ls : List (Arc Lasting Global)) → All (λ l. length l.value.from.items ≡ n) ls → All (λ l. length l.from.items ≡ n) (map (λ l. l.value) ls)
values_sized n [] a = All-nil (λ (l : Lasting). length l.from.items ≡ n)
values_sized n (l ∷ ls) a =
    All-cons (λ (k : Lasting). length k.from.items ≡ n) l.value (map (λ k. k.value) ls) (All-head (λ (k : Arc Lasting Global). length k.value.from.items ≡ n) l ls a)
    (values_sized n ls (All-tail (λ (k : Arc Lasting Global). length k.value.from.items ≡ n) l ls a))

arcs_sized : (n : ℕ) (ls : List (Arc Lasting Global)) → All (λ l. length l.from.items ≡ n) (map (λ l. l.value) ls) → All (λ l. length l.value.from.items ≡ n) ls
arcs_sized n [] a = All-nil (λ (l : Arc Lasting Global). length l.value.from.items ≡ n)
arcs_sized n (l ∷ ls) a =
    All-cons (λ (k : Arc Lasting Global). length k.value.from.items ≡ n) l ls (All-head (λ (k : Lasting). length k.from.items ≡ n) l.value (map (λ k. k.value) ls) a)
    (arcs_sized n ls (All-tail (λ (k : Lasting). length k.from.items ≡ n) l.value (map (λ k. k.value) ls) a))

column_sized : (n : ℕ) (o : Column) → AreBeside n o → Beside n (lasting_there o)
column_sized n None a = tt
column_sized n (Some v) a = values_sized n v.items a

sized_column : (n : ℕ) (o : Column) → Beside n (lasting_there o) → AreBeside n o
sized_column n None a = tt
sized_column n (Some v) a = arcs_sized n v.items a

beside_lists : (n : ℕ) (os : List Column) → All (AreBeside n) os → All (Beside n) (lasting_lists os)
beside_lists n [] a = All-nil (Beside n)
beside_lists n (o ∷ os) a = All-cons (Beside n) (lasting_there o) (lasting_lists os) (column_sized n o (All-head (AreBeside n) o os a)) (beside_lists n os (All-tail (AreBeside n) o os a))

lists_beside : (n : ℕ) (os : List Column) → All (Beside n) (lasting_lists os) → All (AreBeside n) os
lists_beside n [] a = All-nil (AreBeside n)
lists_beside n (o ∷ os) a =
    All-cons (AreBeside n) o os (sized_column n o (All-head (Beside n) (lasting_there o) (lasting_lists os) a)) (lists_beside n os (All-tail (Beside n) (lasting_there o) (lasting_lists os) a))

put_sized : (n : ℕ) (l : Lasting) (o : Option (List Lasting)) → Sized n l → Beside n o → Beside n (put_last l o)
put_sized n l None e a = tt
put_sized n l (Some ls) e a = All-push (λ (k : Lasting). length k.from.items ≡ n) ls l a e

puts_sized : (n : ℕ) (os : List (Option (List Lasting))) (ls : List Lasting) → All (Beside n) os → All (Sized n) ls → All (Beside n) (put_each os ls)
puts_sized n [] ls a b = a
puts_sized n (o ∷ os) [] a b = a
puts_sized n (o ∷ os) (l ∷ ls) a b =
    All-cons (Beside n) (put_last l o) (put_each os ls) (put_sized n l o (All-head (Sized n) l ls b) (All-head (Beside n) o os a))
    (puts_sized n os ls (All-tail (Beside n) o os a) (All-tail (Sized n) l ls b))

pub beside_more : (n : ℕ) (os us : List Column) (ls : List Lasting) → All (AreBeside n) os → All (Sized n) ls → lasting_lists us ≡ put_each (lasting_lists os) ls → All (AreBeside n) us
beside_more n os us ls a b e = lists_beside n us (subst (λ (ks : List (Option (List Lasting))). All (Beside n) ks) (sym e) (puts_sized n (lasting_lists os) ls (beside_lists n os a) b))

-- of no host yet
nobody_sized : (n : ℕ) (q : Bool) → Beside n (cond q (Some []) None)
nobody_sized n true = All-nil (λ (l : Lasting). length l.from.items ≡ n)
nobody_sized n false = tt

nobodies_sized : (n : ℕ) (ss : List Scene) → All (Beside n) (map nobody_yet ss)
nobodies_sized n [] = All-nil (Beside n)
nobodies_sized n (s ∷ ss) = All-cons (Beside n) (nobody_yet s) (map nobody_yet ss) (nobody_sized n _) (nobodies_sized n ss)

pub beside_nobody : (n : ℕ) (os : List Column) (ss : List Scene) → lasting_lists os ≡ map nobody_yet ss → All (AreBeside n) os
beside_nobody n os ss e = lists_beside n os (subst (λ (ks : List (Option (List Lasting))). All (Beside n) ks) (sym e) (nobodies_sized n ss))
