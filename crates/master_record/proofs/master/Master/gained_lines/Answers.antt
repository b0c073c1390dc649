use Rattle.std.proofs.Common.{◌≡◌, ℕ, List, [], sym, subst, eqb-true, rules}
use Rattle.std.specs.Prelude.{All, IsPermutation}
use Rattle.std.specs.List.Sorted.{IsNonDecreasing}
use Rattle.std.proofs.lemmas.List.Sorted.{All-permutation}
use Rattle.ground_program.specs.Bounds.{IsCandidate}
use Rattle.report.specs.declared.lines.Line.{Line}
use Rattle.master_record.specs.Settling.{AreSettled, AreSettledAmong}
use Rattle.master_record.specs.Books.{open_list}
use Rattle.master_record.proofs.ProvedLemmas.{open_candidates_are}
use Rattle.master_record.proofs.GainedLemmas.{nothing_in, settled_permuted, settled_of_open}
use Rattle.master_record.proofs.GainedLemmas.{open_ascends}
use Rattle.master_record.proofs.master.Master.gained_lines.Goals as goal

pub proved_lines-requires-clause-candidates : goal.proved_lines-requires-clause-candidates
proved_lines-requires-clause-candidates c =
    let books = c.args.self.now in
    subst (All (IsCandidate books.normal.names)) (sym c.deref.ensures.value)
    (All-permutation (IsCandidate books.normal.names) c.args.proved.now c.in_ok-proved.proved.items
    c.in_ok-proved.ensures.permutation c.requires)

pub returns-then-is_empty : goal.returns-then-is_empty
returns-then-is_empty c =
    let books = c.args.self.now in
    let lines = c.in_ok-lines.lines.items in
    let none : c.args.answers.now ≡ [] =
    nothing_in c.args.answers.now (search (rules, eqb-true)) in
    let same : IsPermutation c.args.proved.now c.deref.result.now =
    subst (IsPermutation c.args.proved.now) (sym c.deref.ensures.value)
    c.in_ok-proved.ensures.permutation in
    subst (λ (xs : List Line).
    AreSettled books.normal.names books.mode books.pair xs c.args.proved.now lines)
    (sym none)
    (settled_permuted books.normal.names books.mode books.pair [] c.args.proved.now
    c.deref.result.now same lines c.in_ok-lines.ensures)

pub lines_among-requires-clause-candidates : goal.lines_among-requires-clause-candidates
lines_among-requires-clause-candidates c =
    let books = c.args.self.now in
    let looked : c.deref-2.result.now ≡ open_list books = search rules in
    subst (All (IsCandidate books.normal.names)) (sym looked) (open_candidates_are books)

pub lines_among-requires-clause-ascending : goal.lines_among-requires-clause-ascending
lines_among-requires-clause-ascending c =
    let books = c.args.self.now in
    let looked : c.deref-2.result.now ≡ open_list books = search rules in
    subst IsNonDecreasing (sym looked) (open_ascends books)

pub returns : goal.returns
returns c =
    let books = c.args.self.now in
    let answers = c.args.answers.now in
    let sorted = c.deref-3.result.now in
    let lines = c.in_ok-lines-2.lines.items in
    let looked : c.deref-2.result.now ≡ open_list books = search rules in
    let same : IsPermutation c.args.proved.now sorted =
    subst (IsPermutation c.args.proved.now) (sym c.deref-3.ensures.value)
    c.in_ok-proved.ensures.permutation in
    settled_permuted books.normal.names books.mode books.pair answers c.args.proved.now sorted same
    lines
    (settled_of_open books answers sorted lines
    (subst (λ (xs : List ℕ).
    AreSettledAmong books.normal.names books.mode books.pair answers sorted xs lines)
    looked c.in_ok-lines-2.ensures))
