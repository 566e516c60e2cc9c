-- The checks in their order: what each finds is the fault, and where none finds one the book is well formed.
use mathlib.Core.List.{[]}
use native.Mathlib.Omega.{arith}
use Rattle.std.proofs.Common.{rules}
use Rattle.std.proofs.lemmas.Result.{err_from_is_err_and}
use Rattle.bookfit.specs.Formed.{Numbered, Ordered, Running, runs_given, runs_by_place}
use Rattle.bookfit.specs.Answer.{few_links, links_on, book_many, book_ticket, book_out, book_falls, book_broken, book_overfull, book_barred, book_good}
use Rattle.bookfit.proofs.book_fits.Goals as goal
use Rattle.bookfit.proofs.book_fits.Goals.{In_ok-unfit, In_default, In_default-first_broken}

-- past each check, what is known of the book
numbered : (c : In_ok-unfit) → Numbered c.args.yard.now.cap c.args.yard.now.dur c.args.yard.now.places c.args.yard.now.from c.args.yard.now.to c.args.yard.now.links c.args.rows.now.key c.args.rows.now.tail c.args.rows.now.count c.args.rows.now.next_ticket
numbered c = record {
  rules = c.requires.map_rules;
  few = omega (arith, c.if-rows-gt-ROWS.false);
  ticket_from = omega (arith, c.if-rows-lt1.false);
  ticket_to = omega (arith, c.if-rows-gt-TICKETS.false);
  within = c.in_ok-unfit.ensures.within;
}

ordered : (c : In_default) → Ordered c.args.yard.now.cap c.args.yard.now.dur c.args.yard.now.places c.args.yard.now.from c.args.yard.now.to c.args.yard.now.links c.args.rows.now.key c.args.rows.now.tail c.args.rows.now.count c.args.rows.now.next_ticket
ordered c = record { numbered = numbered (goal.at.In_default c).In_ok-unfit; rises = c.in_default.ensures }

running : (c : In_default-first_broken) → Running c.args.yard.now.cap c.args.yard.now.dur c.args.yard.now.places c.args.yard.now.from c.args.yard.now.to c.args.yard.now.links c.args.rows.now.key c.args.rows.now.tail c.args.rows.now.count c.args.rows.now.next_ticket
running c = record {
  ordered = ordered (goal.at.In_default-first_broken c).In_default;
  runs = c.in_default-first_broken.ensures c.args.yard.now.places c.args.yard.now.links c.args.yard.now.dur c.args.yard.now.from c.args.yard.now.to c.in_ok-unfit.ensures.lowest;
}

pub returns-then-rows-gt-ROWS : goal.returns-then-rows-gt-ROWS
returns-then-rows-gt-ROWS c =
    book_many (omega (arith, c.if-rows-gt-ROWS.true))

pub returns-then-rows-lt1 : goal.returns-then-rows-lt1
returns-then-rows-lt1 c =
    book_ticket (λ a b. omega (arith, c.if-rows-lt1.true))

pub returns-then-rows-gt-TICKETS : goal.returns-then-rows-gt-TICKETS
returns-then-rows-gt-TICKETS c =
    book_ticket (λ a b. omega (arith, c.if-rows-gt-TICKETS.true))

pub least_unfit-requires-clause-k_bound : goal.least_unfit-requires-clause-k_bound
least_unfit-requires-clause-k_bound c =
    few_links c.args.yard.now.cap c.args.yard.now.dur c.args.yard.now.places c.args.yard.now.from c.args.yard.now.to c.args.yard.now.links c.requires.map_rules

pub least_unfit-requires-clause-on_map : goal.least_unfit-requires-clause-on_map
least_unfit-requires-clause-on_map c =
    links_on c.args.yard.now.cap c.args.yard.now.dur c.args.yard.now.places c.args.yard.now.from c.args.yard.now.to c.args.yard.now.links c.requires.map_rules

pub returns-in_err-unfit : goal.returns-in_err-unfit
returns-in_err-unfit c =
    let p = err_from_is_err_and c.from_residual.result c.from_residual.ensures.1 in
    let e = c.in_err-unfit.ensures in
    rw (p.1, p.2, e.0) (book_out c.requires.map_rules e.1)

pub overflow_add-result : goal.overflow_add-result
overflow_add-result c =
    omega (arith, (c.in-Some.ensures []).within)

pub returns-in-Some : goal.returns-in-Some
returns-in-Some c =
    book_falls (numbered (goal.at.returns-in-Some c).In_ok-unfit) (c.in-Some.ensures c.args.rows.now.tail)

pub returns-in-Some-first_broken : goal.returns-in-Some-first_broken
returns-in-Some-first_broken c =
    let a = c.args in
    book_broken (ordered (goal.at.returns-in-Some-first_broken c).In_default)
    (c.in-Some-first_broken.ensures a.yard.now.places a.yard.now.links a.yard.now.dur a.yard.now.from a.yard.now.to c.in_ok-unfit.ensures.lowest)

pub all_windows-found-requires-clause-given : goal.all_windows-found-requires-clause-given
all_windows-found-requires-clause-given c =
    runs_given (running (goal.at.all_windows-found-requires-clause-given c).In_default-first_broken)

pub first_overfull-i-requires-clause-given : goal.first_overfull-i-requires-clause-given
first_overfull-i-requires-clause-given c =
    runs_given (running (goal.at.first_overfull-i-requires-clause-given c).In_default-first_broken)

pub returns-in_default-found : goal.returns-in_default-found
returns-in_default-found c =
    book_overfull (running (goal.at.returns-in_default-found c).In_default-first_broken) c.first_overfull-i.ensures

pub exchange_kept-requires : goal.exchange_kept-requires
exchange_kept-requires c =
    runs_by_place (running (goal.at.exchange_kept-requires c).In_default-first_broken) c.requires.packed

pub first_barred-i-requires-clause-by_place : goal.first_barred-i-requires-clause-by_place
first_barred-i-requires-clause-by_place c =
    runs_by_place (running (goal.at.first_barred-i-requires-clause-by_place c).In_default-first_broken) c.requires.packed

pub returns-then-not-exchange_kept : goal.returns-then-not-exchange_kept
returns-then-not-exchange_kept c =
    book_barred (running (goal.at.returns-then-not-exchange_kept c).In_default-first_broken) (c.all_windows-found.ensures.fits c.in-Some-found.w (search rules)) c.first_barred-i.ensures

pub returns : goal.returns
returns c =
    book_good (running (goal.at.returns c).In_default-first_broken) c.all_windows-found.ensures (search rules) (c.exchange_kept.ensures.0 c.if-not-exchange_kept.false)
