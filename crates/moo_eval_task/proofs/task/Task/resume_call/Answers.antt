use Rattle.moo_eval_task.proofs.task.Task.resume_call.Goals as goal

pub returns-clause-call : goal.returns-clause-call
returns-clause-call c = λ k. c.resume_call.ensures.meaning c.args.self.now.ticks_left k
