-- What each host has at its later places, play by play, with that of one host more.
use Rattle.std.proofs.Common.{◌≡◌, ℕ, List, [], ◌∷◌, ◌++◌, map, Bool, true, false, cond, bytes_eq, Option, Some, None, option_map, refl, sym, ap, ◌∙◌}
use Rattle.pb_semantics.specs.Keeps.{is_among}
use Rattle.pb_language.specs.Expression.{Name}
use Rattle.pb_language.specs.Program.{Play, Program}
use Rattle.pb_language.specs.Scope.{Later, Since, every_name, is_later, later_of, no_since}
use Rattle.pb_language.specs.Tables.{HostWalk, PlayWalk, after_first, laters_of, play_laters, since_first, walks_after}
use Rattle.pb_walks.specs.Agree.{LaterAgrees, LatersAgree}
use Rattle.pb_hosts.specs.Tables.{laters_from}
use Rattle.pb_tables.specs.Listed.{put_each}

abbrev pub Same : Since → Since → Type 0
Same l m = (p : ℕ) (x : Name) → is_later l p x ≡ is_later m p x

-- of a host that the play names what its way through it says, of another every name
abbrev pub there : Play → Name → List PlayWalk → Since
there p h ws = cond (is_among h p.hosts) (since_first ws) (every_name 0 no_since)

abbrev pub after : Play → HostWalk → HostWalk
after p w = record { host = w.host; plays = after_first (is_among w.host p.hosts) w.plays }

module _ {A : Type 0} (names : A → Since) where
  -- what a host has in each play
  abbrev pub RowLasts : Program → Name → List PlayWalk → List A → Type 0
  RowLasts [] h ws ls = ls ≡ []
  RowLasts (p ∷ ps) h ws [] = ⊥
  RowLasts (p ∷ ps) h ws (l ∷ ls) = Same (names l) (there p h ws) × RowLasts ps h (after_first (is_among h p.hosts) ws) ls

  -- what each host has in a play
  abbrev pub ColumnLasts : Play → List HostWalk → List A → Type 0
  ColumnLasts p [] [] = Unit {0}
  ColumnLasts p [] (l ∷ ls) = ⊥
  ColumnLasts p (w ∷ ws) [] = ⊥
  ColumnLasts p (w ∷ ws) (l ∷ ls) = Same (names l) (there p w.host w.plays) × ColumnLasts p ws ls

  abbrev pub WhereLinear : Bool → Play → List HostWalk → Option (List A) → Type 0
  WhereLinear true p ws None = ⊥
  WhereLinear true p ws (Some ls) = ColumnLasts p ws ls
  WhereLinear false p ws None = Unit {0}
  WhereLinear false p ws (Some ls) = ⊥

  -- what each host has in each play
  abbrev pub TableLasts : Program → List HostWalk → List (Option (List A)) → Type 0
  TableLasts [] ws [] = Unit {0}
  TableLasts [] ws (o ∷ os) = ⊥
  TableLasts (p ∷ ps) ws [] = ⊥
  TableLasts (p ∷ ps) ws (o ∷ os) = WhereLinear p.is_linear p ws o × TableLasts ps (walks_after p ws) os

  column_more : (p : Play) (ws : List HostWalk) (ls : List A) (w : HostWalk) (l : A) → ColumnLasts p ws ls → Same (names l) (there p w.host w.plays) → ColumnLasts p (ws ++ w ∷ []) (ls ++ l ∷ [])
  column_more p [] [] w l c s = (s, tt)
  column_more p [] (k ∷ ls) w l c s = absurd c
  column_more p (v ∷ ws) [] w l c s = absurd c
  column_more p (v ∷ ws) (k ∷ ls) w l c s = (c.0, column_more p ws ls w l c.1 s)

  where_more : (q : Bool) (p : Play) (ws : List HostWalk) (o : Option (List A)) (w : HostWalk) (l : A) → WhereLinear q p ws o → Same (names l) (there p w.host w.plays) → WhereLinear q p (ws ++ w ∷ []) (option_map (λ ls. ls ++ l ∷ []) o)
  where_more true p ws None w l c s = absurd c
  where_more true p ws (Some ls) w l c s = column_more p ws ls w l c s
  where_more false p ws None w l c s = tt
  where_more false p ws (Some ls) w l c s = absurd c

  -- the column of a play has one host
  column_here : (p : Play) (ws : List HostWalk) (ls : List A) → ColumnLasts p ws ls → LaterAgrees (laters_from (map (λ w. w.host) ws) (map names ls)) (play_laters p ws)
  column_here p [] [] c q g x = refl
  column_here p [] (l ∷ ls) c q g x = absurd c
  column_here p (w ∷ ws) [] c q g x = absurd c
  column_here p (w ∷ ws) (l ∷ ls) c q g x =
      step (bytes_eq g w.host) (names l) (there p w.host w.plays) (later_of g (laters_from (map (λ v. v.host) ws) (map names ls))) (later_of g (play_laters p ws)) (c.0 q x) (column_here p ws ls c.1 q g x) where
        step : (b : Bool) (k l i j : Since) → is_later k q x ≡ is_later l q x → is_later i q x ≡ is_later j q x → is_later (cond b k i) q x ≡ is_later (cond b l j) q x
        step true k l i j e f = e
        step false k l i j e f = f

  abbrev pub listed : List Name → Option (List A) → List Later
  listed hs None = []
  listed hs (Some ls) = laters_from hs (map names ls)

  where_here : (b : Bool) (p : Play) (ws : List HostWalk) (o : Option (List A)) → WhereLinear b p ws o → LaterAgrees (listed (map (λ w. w.host) ws) o) (cond b (play_laters p ws) [])
  where_here true p ws None c q g x = absurd c
  where_here true p ws (Some ls) c q g x = column_here p ws ls c q g x
  where_here false p ws None c q g x = refl
  where_here false p ws (Some ls) c q g x = absurd c

same_hosts : (p : Play) (ws : List HostWalk) → map (λ w. w.host) (walks_after p ws) ≡ map (λ w. w.host) ws
same_hosts p [] = refl
same_hosts p (w ∷ ws) = ap (λ hs. w.host ∷ hs) (same_hosts p ws)

after_joined : (p : Play) (ws : List HostWalk) (w : HostWalk) → walks_after p (ws ++ w ∷ []) ≡ walks_after p ws ++ after p w ∷ []
after_joined p [] w = refl
after_joined p (v ∷ ws) w = ap (λ us. after p v ∷ us) (after_joined p ws w)

module _ {A : Type 0} (names : A → Since) where
  pub row_more : (ps : Program) (ws : List HostWalk) (os : List (Option (List A))) (w : HostWalk) (ls : List A) → TableLasts names ps ws os → RowLasts names ps w.host w.plays ls → TableLasts names ps (ws ++ w ∷ []) (put_each os ls)
  row_more [] ws [] w ls t r = tt
  row_more [] ws (o ∷ os) w ls t r = absurd t
  row_more (p ∷ ps) ws [] w ls t r = absurd t
  row_more (p ∷ ps) ws (o ∷ os) w [] t r = absurd r
  row_more (p ∷ ps) ws (o ∷ os) w (l ∷ ls) t r =
      (where_more names p.is_linear p ws o w l t.0 r.0, rw (after_joined p ws w) (row_more ps (walks_after p ws) os (after p w) ls t.1 r.1))

  pub table_listed : (ps : Program) (ws : List HostWalk) (os : List (Option (List A))) (hs : List Name) → hs ≡ map (λ w. w.host) ws → TableLasts names ps ws os → LatersAgree (map (listed names hs) os) (laters_of ps ws)
  table_listed [] ws [] hs e t = tt
  table_listed [] ws (o ∷ os) hs e t = absurd t
  table_listed (p ∷ ps) ws [] hs e t = absurd t
  table_listed (p ∷ ps) ws (o ∷ os) hs e t =
      (λ q g x. ap (λ ms. is_later (later_of g (listed names ms o)) q x) e ∙ where_here names p.is_linear p ws o t.0 q g x, table_listed ps (walks_after p ws) os hs (e ∙ sym (same_hosts p ws)) t.1)
