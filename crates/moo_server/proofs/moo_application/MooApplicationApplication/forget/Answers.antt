use Rattle.moo_server.proofs.moo_application.MooApplicationApplication.forget.Goals as goal

pub returns-clause-waiting : goal.returns-clause-waiting
returns-clause-waiting c = let e = c.rollback.ensures in λ i. record { sent = λ k. e.sent k i; logged = e.log i }

pub returns-clause-under_way : goal.returns-clause-under_way
returns-clause-under_way c = let e = c.rollback.ensures in λ i. record { sent = λ k. e.none k i; logged = e.no_log i }
