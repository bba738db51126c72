use Rattle.cli_words.proofs.cluster_words.serve_words_at.Goals as goal

pub returns-clause-numbers : goal.returns-clause-numbers
returns-clause-numbers c =
    let n = c.in_ok-words.ensures.numbers in
    record {
      incarnation = n.incarnation;
      requests = n.requests;
      workers = n.workers;
      period = n.period;
      replicas = n.replicas;
      weight = n.weight;
      per_message = n.per_message;
      piggyback = n.piggyback;
      heal = n.heal;
      sum = n.sum;
    }
