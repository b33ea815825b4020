-- Calls made before and after a filing. Assumes nothing.
use Rattle.std.proofs.Common.{◌≡◌, List, [], ◌++◌, map, sym, ap, ◌∙◌}
use Rattle.trees.specs.Entries.{Entries, Row}
use Rattle.marks.specs.Marks.{MarkRow}
use Rattle.marks.specs.Plain.{plain_of}
use Rattle.sessions.specs.declared.session.Session.{Session}
use Rattle.sessions.specs.Sessions.{marks_in}
use Rattle.archive.specs.declared.call.Call.{Call}
use Rattle.archive.specs.declared.reply.Reply.{Reply}
use Rattle.archive.specs.Calls.{Request, request_of, response_of}
use Rattle.archive.specs.Answers.{plain_in}
use Rattle.archive.specs.Runs.{answers, afterwards, opened}
use Rattle.archive.proofs.Opens.{plain_open}
use Rattle.archive.proofs.Runs.{answers-append, afterwards-append}

-- a layer that the first calls left, laid on a tree with the same entries, goes on where they ended
module _ (e o : List Row) (m : List MarkRow) (first second : List Request) (made : plain_of m e ≡ afterwards (opened e) first) (same : o ≡ e) where
  there : plain_of m o ≡ afterwards (opened e) first
  there = ap (plain_of m) same ∙ made

  pub replies_on : answers (opened e) first ++ answers (plain_of m o) second ≡ answers (opened e) (first ++ second)
  replies_on = ap (λ s. answers (opened e) first ++ answers s second) there ∙ sym (answers-append (opened e) first second)

  pub after_on : afterwards (plain_of m o) second ≡ afterwards (opened e) (first ++ second)
  after_on = ap (λ s. afterwards s second) there ∙ sym (afterwards-append (opened e) first second)

-- the first calls, on a session that was just opened over a tree
module _ {T : Type 0} (e : T → Entries) (tree : T) (opening : Session T) (none : marks_in opening ≡ []) (on : opening.lower ≡ tree) (first : List Call) where
  pub marks_left : (s : Session T) → s.lower ≡ opening.lower → plain_in e s ≡ afterwards (plain_in e opening) (map request_of first) → plain_of (marks_in s) (e tree).rows ≡ afterwards (opened (e tree).rows) (map request_of first)
  marks_left s l h =
      ap (λ t. plain_of (marks_in s) (e t).rows) (sym (l ∙ on))
      ∙ h
      ∙ ap (λ p. afterwards p (map request_of first)) (plain_open e opening tree none on)

  pub replies_first : (before replies : List Reply) → map response_of replies ≡ map response_of before ++ answers (plain_in e opening) (map request_of first) → map response_of replies ≡ map response_of before ++ answers (opened (e tree).rows) (map request_of first)
  replies_first before replies h = h ∙ ap (λ p. map response_of before ++ answers p (map request_of first)) (plain_open e opening tree none on)

-- a session with those marks over a tree
pub plain_laid : {T : Type 0} (e : T → Entries) (tree : T) (s : Session T) (m : List MarkRow) → marks_in s ≡ m → s.lower ≡ tree → plain_in e s ≡ plain_of m (e tree).rows
plain_laid e tree s m h l = ap (λ z. plain_of z (e s.lower).rows) h ∙ ap (λ t. plain_of m (e t).rows) l
