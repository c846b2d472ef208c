-- Texts that read neither other hosts nor the host's own name.
use Rattle.std.proofs.Common.{◌≡◌, false, ◌||◌, Option, Some, None, sym}
use Rattle.pb_semantics.proofs.Bools.{neither-left, neither-right, untrue}
use Rattle.pb_language.specs.Expression.{Expression, literal, path, hostvars_alone, negation, conjunction, disjunction, comparison, membership, in_batch, defined, undefinable, path_status, value_status, path_or, value_or, length_of, joined_by, concatenation, list_of, record_of, Root, variable, alias, other, member, Expressions, no_expressions, expression, Parts, no_parts, part}
use Rattle.pb_language.specs.Rules.{reads_others, root_reads_others, any_reads_others, part_reads_others}
use Rattle.pb_language.specs.OwnReads.{keyword_reads_others, until_reads_others}
use Rattle.pb_language.specs.Task.{Attempts, Action, call_of, debug, set_fact, assertion, failure_of, Task}
use Rattle.pb_walks.specs.Alone.{text_reads_others, action_reads_others, task_reads_others}
use Rattle.pb_walks.proofs.AloneTasks.{reads_none}
use Rattle.pb_alike.specs.Named.{is_own_name, reads_name, root_reads_name, any_reads_name, part_reads_name, text_reads_name, keyword_reads_name, until_reads_name, action_reads_name, task_reads_name}

abbrev mutual
  pub Neither : Expression → Type 0
  Neither (literal d) = Unit {0}
  Neither (path r ns) = RootNeither r
  Neither (hostvars_alone o) = ⊥
  Neither (negation e) = Neither e
  Neither (conjunction es) = EachNeither es
  Neither (disjunction es) = EachNeither es
  Neither (comparison c a b) = Neither a × Neither b
  Neither (membership a b) = Neither a × Neither b
  Neither (in_batch t) = ⊥
  Neither (defined r ns) = RootNeither r
  Neither (undefinable e) = Neither e
  Neither (path_status s r ns) = RootNeither r
  Neither (value_status s e) = Neither e
  Neither (path_or r ns e) = RootNeither r × Neither e
  Neither (value_or a e) = Neither a × Neither e
  Neither (length_of e) = Neither e
  Neither (joined_by e s) = Neither e × Neither s
  Neither (concatenation es) = EachNeither es
  Neither (list_of es) = EachNeither es
  Neither (record_of ps) = PartsNeither ps

  pub RootNeither : Root → Type 0
  RootNeither (variable n) = is_own_name n ≡ false
  RootNeither (alias n e) = Neither e
  RootNeither (other t x) = ⊥
  RootNeither (member g n) = Unit {0}

  pub EachNeither : Expressions → Type 0
  EachNeither no_expressions = Unit {0}
  EachNeither (expression e es) = Neither e × EachNeither es

  pub PartsNeither : Parts → Type 0
  PartsNeither no_parts = Unit {0}
  PartsNeither (part n e ps) = Neither e × PartsNeither ps

mutual
  pub neither : (e : Expression) → reads_others e ≡ false → reads_name e ≡ false → Neither e
  neither (literal d) n m = tt
  neither (path r ns) n m = root_neither r n m
  neither (hostvars_alone o) n m = untrue (sym n)
  neither (negation e) n m = neither e n m
  neither (conjunction es) n m = each_neither es n m
  neither (disjunction es) n m = each_neither es n m
  neither (comparison c a b) n m =
      (neither a (neither-left (reads_others a) (reads_others b) n) (neither-left (reads_name a) (reads_name b) m), neither b (neither-right (reads_others a) (reads_others b) n) (neither-right (reads_name a) (reads_name b) m))
  neither (membership a b) n m =
      (neither a (neither-left (reads_others a) (reads_others b) n) (neither-left (reads_name a) (reads_name b) m), neither b (neither-right (reads_others a) (reads_others b) n) (neither-right (reads_name a) (reads_name b) m))
  neither (in_batch t) n m = untrue (sym n)
  neither (defined r ns) n m = root_neither r n m
  neither (undefinable e) n m = neither e n m
  neither (path_status s r ns) n m = root_neither r n m
  neither (value_status s e) n m = neither e n m
  neither (path_or r ns e) n m =
      (root_neither r (neither-left (root_reads_others r) (reads_others e) n) (neither-left (root_reads_name r) (reads_name e) m), neither e (neither-right (root_reads_others r) (reads_others e) n) (neither-right (root_reads_name r) (reads_name e) m))
  neither (value_or a e) n m =
      (neither a (neither-left (reads_others a) (reads_others e) n) (neither-left (reads_name a) (reads_name e) m), neither e (neither-right (reads_others a) (reads_others e) n) (neither-right (reads_name a) (reads_name e) m))
  neither (length_of e) n m = neither e n m
  neither (joined_by e s) n m =
      (neither e (neither-left (reads_others e) (reads_others s) n) (neither-left (reads_name e) (reads_name s) m), neither s (neither-right (reads_others e) (reads_others s) n) (neither-right (reads_name e) (reads_name s) m))
  neither (concatenation es) n m = each_neither es n m
  neither (list_of es) n m = each_neither es n m
  neither (record_of ps) n m = parts_neither ps n m

  root_neither : (r : Root) → root_reads_others r ≡ false → root_reads_name r ≡ false → RootNeither r
  root_neither (variable x) n m = m
  root_neither (alias x e) n m = neither e n m
  root_neither (other t x) n m = untrue (sym n)
  root_neither (member g p) n m = tt

  pub each_neither : (es : Expressions) → any_reads_others es ≡ false → any_reads_name es ≡ false → EachNeither es
  each_neither no_expressions n m = tt
  each_neither (expression e es) n m =
      (neither e (neither-left (reads_others e) (any_reads_others es) n) (neither-left (reads_name e) (any_reads_name es) m), each_neither es (neither-right (reads_others e) (any_reads_others es) n) (neither-right (reads_name e) (any_reads_name es) m))

  pub parts_neither : (ps : Parts) → part_reads_others ps ≡ false → part_reads_name ps ≡ false → PartsNeither ps
  parts_neither no_parts n m = tt
  parts_neither (part x e ps) n m =
      (neither e (neither-left (reads_others e) (part_reads_others ps) n) (neither-left (reads_name e) (part_reads_name ps) m), parts_neither ps (neither-right (reads_others e) (part_reads_others ps) n) (neither-right (reads_name e) (part_reads_name ps) m))

-- ---- the texts of a task

abbrev pub TextNeither : Option Expression → Type 0
TextNeither None = Unit {0}
TextNeither (Some e) = Neither e

abbrev pub KeywordNeither : Option Expressions → Type 0
KeywordNeither None = Unit {0}
KeywordNeither (Some es) = EachNeither es

abbrev pub UntilNeither : Option Attempts → Type 0
UntilNeither None = Unit {0}
UntilNeither (Some a) = EachNeither a.until

abbrev pub ActionNeither : Action → Type 0
ActionNeither (call_of m ps) = PartsNeither ps
ActionNeither (debug e) = Neither e
ActionNeither (set_fact ps) = PartsNeither ps
ActionNeither (assertion es o) = EachNeither es × TextNeither o
ActionNeither (failure_of o) = TextNeither o

pub record TaskNeither (t : Task) : Type 0 where
  pub loop : TextNeither t.loop
  pub conditions : EachNeither t.conditions
  pub action : ActionNeither t.action
  pub changed : KeywordNeither t.changed_when
  pub failed : KeywordNeither t.failed_when
  pub attempts : UntilNeither t.attempts

pub text_neither : (o : Option Expression) → text_reads_others o ≡ false → text_reads_name o ≡ false → TextNeither o
text_neither None n m = tt
text_neither (Some e) n m = neither e n m

keyword_neither : (o : Option Expressions) → keyword_reads_others o ≡ false → keyword_reads_name o ≡ false → KeywordNeither o
keyword_neither None n m = tt
keyword_neither (Some es) n m = each_neither es n m

until_neither : (o : Option Attempts) → until_reads_others o ≡ false → until_reads_name o ≡ false → UntilNeither o
until_neither None n m = tt
until_neither (Some a) n m = each_neither a.until n m

action_neither : (a : Action) → action_reads_others a ≡ false → action_reads_name a ≡ false → ActionNeither a
action_neither (call_of x ps) n m = parts_neither ps n m
action_neither (debug e) n m = neither e n m
action_neither (set_fact ps) n m = parts_neither ps n m
action_neither (assertion es o) n m =
    (each_neither es (neither-left (any_reads_others es) (text_reads_others o) n) (neither-left (any_reads_name es) (text_reads_name o) m), text_neither o (neither-right (any_reads_others es) (text_reads_others o) n) (neither-right (any_reads_name es) (text_reads_name o) m))
action_neither (failure_of o) n m = text_neither o n m

pub task_neither : (t : Task) → task_reads_others t ≡ false → task_reads_name t ≡ false → TaskNeither t
task_neither t n m =
    let r = reads_none t n in
    let last = keyword_reads_name t.failed_when || until_reads_name t.attempts in
    let fourth = keyword_reads_name t.changed_when || last in
    let third = action_reads_name t.action || fourth in
    let second = any_reads_name t.conditions || third in
    let m1 = neither-right (text_reads_name t.loop) second m in
    let m2 = neither-right (any_reads_name t.conditions) third m1 in
    let m3 = neither-right (action_reads_name t.action) fourth m2 in
    let m4 = neither-right (keyword_reads_name t.changed_when) last m3 in
    record {
      loop = text_neither t.loop r.loop (neither-left (text_reads_name t.loop) second m);
      conditions = each_neither t.conditions r.conditions (neither-left (any_reads_name t.conditions) third m1);
      action = action_neither t.action r.action (neither-left (action_reads_name t.action) fourth m2);
      changed = keyword_neither t.changed_when r.changed (neither-left (keyword_reads_name t.changed_when) last m3);
      failed = keyword_neither t.failed_when r.failed (neither-left (keyword_reads_name t.failed_when) (until_reads_name t.attempts) m4);
      attempts = until_neither t.attempts r.attempts (neither-right (keyword_reads_name t.failed_when) (until_reads_name t.attempts) m4);
    }
