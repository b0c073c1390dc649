-- How a call that writes one of several texts ends, from what its writing did.
use Rattle.std.proofs.Common.{◌≡◌, ℕ, List, [], Option, Ok, Err, refl, sym, subst}
use Rattle.std.proofs.Common.{inl, inr, take}
use Rattle.std.specs.Prelude.{Result, IfOk}
use Rattle.byte_edges.specs.Edges.{Writes}
use Rattle.normal_program.specs.declared.spent.SpentTest.{SpentTest}
use Rattle.query_run.specs.declared.answering.Ended.{Ended}
use Rattle.query_run.specs.Answers.{Ends}
use Rattle.wasp2_run.specs.Run.{Ran}

module _ {K E : Type 0} {written : K → Option (List ℕ)} {faults : K → ℕ} {old new : K}
    {Fits : ℕ → List SpentTest → List ℕ → Type 0} where
  -- a text that fits a status without tests was written, as far as the sink came
  pub ends_plainly : {text : List ℕ} {result : Result Ended E} (status : ℕ) → Fits status [] text
      → Writes written faults old new text result
      → IfOk result (λ told. told ≡ record { status = status; spent = [] })
      → Ends written faults old new Fits result
  ends_plainly {text = text} status fit writes given = record {
    status = status;
    spent = [];
    text = text;
    fits = fit;
    writes = writes;
    given = given;
  }

  -- what fits one thing fits a weaker one
  pub ends_weaker : {Others : ℕ → List SpentTest → List ℕ → Type 0} {result : Result Ended E}
      → Ends written faults old new Fits result
      → ((status : ℕ) (spent : List SpentTest) (text : List ℕ) → Fits status spent text
      → Others status spent text)
      → Ends written faults old new Others result
  ends_weaker one weaker = record {
    status = one.status;
    spent = one.spent;
    text = one.text;
    fits = weaker one.status one.spent one.text one.fits;
    writes = one.writes;
    given = one.given;
  }

  -- a status that is given is one that fits
  pub ends_given : (P : ℕ → Type 0) (result : Result Ended E)
      → Ends written faults old new Fits result
      → ((status : ℕ) (spent : List SpentTest) (text : List ℕ) → Fits status spent text → P status)
      → IfOk result (λ told. P told.status)
  ends_given P (Ok told) one each =
      subst (λ (t : Ended). P t.status) (sym one.given) (each one.status one.spent one.text one.fits)
  ends_given P (Err error) one each = tt

  -- all was written
  pub ran_ok : (told : Ended) → Ends {E = E} written faults old new Fits (Ok told)
      → Ran written faults Fits old new told.status told.spent
  ran_ok told one =
      subst (λ (t : Ended). Ran written faults Fits old new t.status t.spent) (sym one.given)
      (record { text = one.text; appended = one.writes.all; ends = inl one.fits })

  -- the sink failed
  pub ran_cut : (error : E) → Ends written faults old new Fits (Err error)
      → Ran written faults Fits old new 6 []
  ran_cut error one = record {
    text = take one.writes.prefix.0 one.text;
    appended = one.writes.prefix.1;
    ends = inr (
      refl,
      refl,
      record {
        rose = one.writes.cause;
        status = one.status;
        spent = one.spent;
        whole = one.text;
        allowed = one.fits;
        count = one.writes.prefix.0;
        part = refl;
      },
    );
  }
