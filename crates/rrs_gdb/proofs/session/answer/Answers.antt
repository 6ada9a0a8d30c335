use Rattle.std.proofs.Common.{rules}
use Rattle.rrs_gdb.proofs.session.answer.Goals as goal
use Rattle.rrs_gdb.proofs.session.answer.Goals.{then-has_answer+in_ok-send, else-has_answer}

-- by whether the packet has an answer
pub returns : goal.returns
returns g c =
    elim c.if-has_answer.branch [
      | then-has_answer+in_ok-send w ↦ record {
        stopped = λ is. search rules;
        shows = λ is. search rules;
        answered = λ runs ends.
            let quiet = c.in_ok-next.ensures.quiet runs in
            let sent = w.in_ok-send.ensures.sent in
            let is = w.link-is in
            (c.answer_to.new.reply.items, search rules);
        asks = λ changes runs. search rules;
        goes_on = λ none. search rules;
        ends = λ either. search rules;
        restarts = λ is. search rules;
      }
      | else-has_answer w ↦ record {
        stopped = λ is. search rules;
        shows = λ is. search rules;
        answered = λ runs ends. search rules;
        asks = λ changes runs. search rules;
        goes_on = λ none. search rules;
        ends = λ either. search rules;
        restarts = λ is. search rules;
      }
    ]
