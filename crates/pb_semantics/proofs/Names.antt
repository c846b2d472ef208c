-- Names and shapes that are compared.
use Rattle.std.proofs.Common.{◌≡◌, ℕ, List, Bool, true, false, ◌&&◌, bytes_eq, refl}
use Rattle.std.proofs.lemmas.Slice.Eq.{bytes_eq-Decides}
use Rattle.pb_semantics.specs.Data.{bool_eq}
use Rattle.pb_semantics.specs.Kind.{Shape, ok_shape, failure_shape, skipped_shape, shape_eq}
use Rattle.pb_semantics.specs.Below.{same_case}
use Rattle.pb_semantics.proofs.Bools.{untrue, and-left, and-right, and-both}

pub same_name : (n m : List ℕ) → bytes_eq n m ≡ true → n ≡ m
same_name n m h = (bytes_eq-Decides n m).0 h

pub own_name : (n : List ℕ) → bytes_eq n n ≡ true
own_name n = (bytes_eq-Decides n n).1 refl

pub same_flag : (a b : Bool) → bool_eq a b ≡ true → a ≡ b
same_flag true true h = refl
same_flag true false h = untrue h
same_flag false true h = untrue h
same_flag false false h = refl

pub own_flag : (a : Bool) → bool_eq a a ≡ true
own_flag true = refl
own_flag false = refl

pub same_shape : (s t : Shape) → shape_eq s t ≡ true → s ≡ t
same_shape ok_shape ok_shape h = refl
same_shape failure_shape failure_shape h = refl
same_shape skipped_shape skipped_shape h = refl
same_shape s t h = untrue h

pub own_shape : (s : Shape) → shape_eq s s ≡ true
own_shape ok_shape = refl
own_shape failure_shape = refl
own_shape skipped_shape = refl

pub case_action : (m : List ℕ) (sh : Shape) (fl : Bool) (n : List ℕ) (sj : Shape) (fm : Bool) → same_case m sh fl n sj fm ≡ true → m ≡ n
case_action m sh fl n sj fm h = same_name m n (and-left (bytes_eq m n) (shape_eq sh sj && bool_eq fl fm) h)

pub case_shape : (m : List ℕ) (sh : Shape) (fl : Bool) (n : List ℕ) (sj : Shape) (fm : Bool) → same_case m sh fl n sj fm ≡ true → sh ≡ sj
case_shape m sh fl n sj fm h = same_shape sh sj (and-left (shape_eq sh sj) (bool_eq fl fm) (and-right (bytes_eq m n) (shape_eq sh sj && bool_eq fl fm) h))

pub case_flag : (m : List ℕ) (sh : Shape) (fl : Bool) (n : List ℕ) (sj : Shape) (fm : Bool) → same_case m sh fl n sj fm ≡ true → fl ≡ fm
case_flag m sh fl n sj fm h = same_flag fl fm (and-right (shape_eq sh sj) (bool_eq fl fm) (and-right (bytes_eq m n) (shape_eq sh sj && bool_eq fl fm) h))

pub own_case : (m : List ℕ) (sh : Shape) (fl : Bool) → same_case m sh fl m sh fl ≡ true
own_case m sh fl = and-both (bytes_eq m m) (shape_eq sh sh && bool_eq fl fl) (own_name m) (and-both (shape_eq sh sh) (bool_eq fl fl) (own_shape sh) (own_flag fl))
